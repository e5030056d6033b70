-- Isolation: with equal views every call of the process meets tests that agree.
use Prim.Native.Nat.{ℕ, suc, max, ◌<◌}
use native.Mathlib.Omega.{arith}
use mathlib.Core.Bool.{Bool, true, false, not, ◌&&◌, ◌||◌}
use mathlib.Core.List.{List, [], ◌∷◌, map}
use mathlib.Core.Path.{◌≡◌, refl, sym, ap, ap₂, ◌∙◌, subst}
use mathlib.Core.Logic.{◌⊎◌, inl, inr, ⊎_elim}
use lib.Dec.{leb, eqb}
use borrow.Author.Tests.{eqb-true, eq-eqb, ne_eqb, leb-true, le-ltb}
use Rattle.rows.specs.declared.Row.{Row}
use Rattle.rows.specs.declared.Request.{Request}
use Rattle.std.specs.Prelude.{if◌then◌else◌}
use Rattle.rows.specs.Lists.{any, all, member, between, some}
use Rattle.rows.specs.Limits.{greatest_depth}
use Rattle.rows.specs.Codes.{is_operation, is_subdirectory, is_client, is_server, is_end, in_node, in_clist, is_node, may_hold, may_transfer, may_register, within}
use Rattle.rows.specs.Tables.{State, no_row, no_request, row_of, request_of, process_at, is_listed, numbers, sources, depth_over, on_loan, is_lent}
use Rattle.rows.specs.Sound.{is_fetched, has_right_depth, depths_right}
use Rattle.rows.proofs.Bools.{clash, and_l, and_r, not_t, not_f, all_filter, or-fl, or-fr, none-zero, pos-some, true-or-false, any-eq}
use Rattle.rows.proofs.Keyed.{first-none}
use Rattle.rows.proofs.Lists.{none-all, filter_same}
use Rattle.rows.proofs.Places.{client-is-end, subdirectory-no-end}
use Rattle.tables.proofs.Sound.{Sound, sound-open}
use Rattle.tables.proofs.SoundFacts.{row_number, row-object, client-object, clist-there, active-node}
use Rattle.tables.proofs.Standing.{sourced-at}
use Rattle.closing.proofs.Facts.{request-number}
use Rattle.calls.specs.declared.Item.{Item}
use Rattle.calls.specs.declared.Call.{Call}
use Rattle.calls.specs.declared.Call.TheVariants.{Go, Hold, Register, Drop, Port, Close, Ask, Fetch, Revoke, Comes, Chain, ComesAll}
use Rattle.calls.specs.declared.Answer.TheVariants.{Fetched}
use Rattle.calls.specs.Answers.{refusal_of}
use Rattle.calls.specs.Rules.{◌when◌, lowest, refused, judge, not_held, has_open, asked_of, too_deep}
use Rattle.calls.specs.Loans.{items_of, item_row, moves, copies, copy_depth}
use Rattle.calls.specs.Calls.{registered_depth, in_use, lacks_right, is_busy, lent_ends, is_away, refusals_go, refusals_hold, refusals_register, refusals_drop, refusals_port, refusals_close, refusals_ask, refusals_fetch, refusals_answer, refusals_revoke, refusals, done, made, fetched_answer, effect, perform, caller_of}
use Rattle.text.specs.declared.Reading.TheVariants.{Asks}
use Rattle.text.specs.Entry.{caller_unlisted, answered}
use Rattle.security.specs.Isolation.{SeenEnd, seen_end, seen_request, nothing_seen, seen_row, view, Alike, refused as both-refused, same as same_answer, new-number, ViewDecides, Isolation}
use Rattle.security.proofs.Rows.{request-low, through-at}
use Rattle.security.proofs.Steps.{step-sound}
use Rattle.security.proofs.Reach.{no-row-zero}
use Rattle.security.proofs.Seen.{picked-alike, picked_same, held-alike, seen_alike, record-alike, asked-alike, node_alike}
use Rattle.security.proofs.Alike.{Agreeing, rest, test, Accepts, judged-alike}

-- ---- what is accepted, alike
module _ (st st' : State) where
  done-alike : (a a' : State) → Accepts st st' (done a) (done a')
  unfolding done refusal_of
  done-alike a a' = record { first = refl; second = refl; alike = same_answer refl refl }

  made_alike : (a a' : State) → Accepts st st' (made st.next a) (made st'.next a')
  unfolding made refusal_of
  made_alike a a' = record { first = refl; second = refl; alike = new-number refl refl }

any-on-all : {A : Type 0} (g f f' : A → Bool) → ((x : A) → g x ≡ true → f x ≡ f' x) → (xs : List A) → all g xs ≡ true → any f xs ≡ any f' xs
unfolding any all
any-on-all g f f' h [] e = refl
any-on-all g f f' h (x ∷ xs) e = rw (h x (and_l (g x) (all g xs) e), any-on-all g f f' h xs (and_r (g x) (all g xs) e)) refl

any-mapped : {A B : Type 0} (f : B → Bool) (w : A → B) (xs : List A) → any f (map w xs) ≡ any (λ x. f (w x)) xs
unfolding any
any-mapped f w [] = refl
any-mapped f w (x ∷ xs) = ap (λ b. f (w x) || b) (any-mapped f w xs)

module _ (st st' : State) (s : Sound st) (s' : Sound st') (p : ℕ) (same : view st p ≡ view st' p) where
  abbrev R : ℕ → Row
  R e = row_of st.rows e

  abbrev R' : ℕ → Row
  R' e = row_of st'.rows e

  held_same : (e : ℕ) → not_held st p e ≡ not_held st' p e
  unfolding not_held
  held_same e = ap not (held-alike st st' s s' p same e)

  zero_same : R 0 ≡ R' 0
  zero_same = no-row-zero st s ∙ sym (no-row-zero st' s')

  -- ---- a row of the c-list
  module _ (e : ℕ) (h : not_held st p e ≡ false) where
    mine : eqb (R e).place (in_clist p) ≡ true
    unfolding not_held
    mine = not_f _ h

    there : member e (numbers st.rows) ≡ true
    there = clist-there st.rows p e mine

    number : (R e).number ≡ e
    number = row_number st.rows e there

    seen : seen_row st p (R e) ≡ seen_row st' p (R' e)
    seen = seen_alike st st' s s' p same e mine

    row_same : R e ≡ R' e
    unfolding seen_row
    row_same = ap (λ x. x.row) seen

    number' : (R' e).number ≡ e
    number' = ap (λ r. r.number) (sym row_same) ∙ number

    used-same : any (λ r. member e (sources r)) st.rows ≡ any (λ r. member e (sources r)) st'.rows
    unfolding seen_row
    used-same =
        ap (λ n. any (λ r. member n (sources r)) st.rows) (sym number) ∙ ap (λ x. x.used) seen ∙ ap (λ n. any (λ r. member n (sources r)) st'.rows) number'

    lent_same : is_end (R e).kind ≡ false → is_lent st e ≡ is_lent st' e
    unfolding seen_row
    lent_same k =
        ap (is_lent st) (sym number) ∙ sym (ap (λ b. not b && is_lent st (R e).number) k) ∙ ap (λ x. x.lent) seen
        ∙ ap (λ b. not b && is_lent st' (R' e).number) (ap (λ r. is_end r.kind) (sym row_same) ∙ k) ∙ ap (is_lent st') number'

    busy-same : is_end (R e).kind ≡ true → has_open st (R e).object ≡ has_open st' (R' e).object
    unfolding seen_row
    busy-same k = sym (ap (λ b. b && has_open st (R e).object) k) ∙ ap (λ x. x.busy) seen ∙ ap (λ b. b && has_open st' (R' e).object) (ap (λ r. is_end r.kind) (sym row_same) ∙ k)

    away-same : is_client (R e).kind ≡ true → on_loan st.requests e ≡ on_loan st'.requests e
    unfolding seen_row
    away-same k =
        ap (on_loan st.requests) (sym number) ∙ sym (ap (λ b. b && on_loan st.requests (R e).number) k) ∙ ap (λ x. x.away) seen
        ∙ ap (λ b. b && on_loan st'.requests (R' e).number) (ap (λ r. is_client r.kind) (sym row_same) ∙ k) ∙ ap (on_loan st'.requests) number'

    request-same : is_server (R e).kind ≡ true → seen_request st p (asked_of st e) ≡ seen_request st' p (asked_of st' e)
    unfolding seen_row
    request-same k =
        ap (λ n. seen_request st p (asked_of st n)) (sym number) ∙ sym (ap (λ b. if b then seen_request st p (asked_of st (R e).number) else nothing_seen) k) ∙ ap (λ x. x.request) seen
        ∙ ap (λ b. if b then seen_request st' p (asked_of st' (R' e).number) else nothing_seen) (ap (λ r. is_server r.kind) (sym row_same) ∙ k)
        ∙ ap (λ n. seen_request st' p (asked_of st' n)) number'

    kind-test : (f : ℕ → Bool) → f (R e).kind ≡ f (R' e).kind
    kind-test f = ap (λ r. f r.kind) row_same

  -- ---- the calls
  abbrev Alikes : Call → Type 0
  Alikes c = Agreeing (Accepts st st' (effect st c) (effect st' c)) (refusals st c) (refusals st' c)

  go-alike : (e : ℕ) → Alikes (Go p e)
  unfolding refusals refusals_go effect all
  go-alike e = pick (eqb e 0)
    where
      pick : (b : Bool)
          → Agreeing (Accepts st st' (effect st (Go p e)) (effect st' (Go p e))) (if b then [] else 7 when not_held st p e ∷ 8 when not (is_subdirectory (R e).kind) ∷ [])
          (if b then [] else 7 when not_held st' p e ∷ 8 when not (is_subdirectory (R' e).kind) ∷ [])
      pick true = rest [] [] refl refl (done-alike st st' _ _)
      pick false =
          test 7 _ _ _ _ (omega arith) (omega arith) (held_same e) λ h.
          test 8 _ _ _ _ (omega arith) (omega arith) (ap not (kind-test e h is_subdirectory)) λ _. rest [] [] refl refl (done-alike st st' _ _)

  drop-alike : (e : ℕ) → Alikes (Drop p e)
  unfolding refusals refusals_drop effect all in_use
  drop-alike e =
      test 7 _ _ _ _ (omega arith) (omega arith) (held_same e) λ h.
      test 8 _ _ _ _ (omega arith) (omega arith) (kind-test e h is_end) λ _.
      test 13 _ _ _ _ (omega arith) (omega arith) (ap₂ (λ a x. a || eqb x.through e) (used-same e h) (record-alike st st' s s' p same)) λ _. rest [] [] refl refl (done-alike st st' _ _)

  depth_same : (e : ℕ) → not_held st p e ≡ false → depth_over st.rows e 0 ≡ depth_over st'.rows e 0
  unfolding depth_over
  depth_same e h = ap₂ (λ a b. suc (max a.depth b.depth)) (row_same e h) zero_same

  port-alike : (e : ℕ) → Alikes (Port p e)
  unfolding refusals refusals_port effect all
  port-alike e =
      test 7 _ _ _ _ (omega arith) (omega arith) (held_same e) λ h.
      test 8 _ _ _ _ (omega arith) (omega arith) (ap not (kind-test e h is_operation)) λ _.
      test 15 _ _ _ _ (omega arith) (omega arith) (ap too_deep (depth_same e h)) λ _. rest _ _ refl refl (made_alike st st' _ _)

  close-alike : (e : ℕ) → Alikes (Close p e)
  unfolding refusals refusals_close effect all
  close-alike e =
      test 7 _ _ _ _ (omega arith) (omega arith) (held_same e) λ h.
      test 8 _ _ _ _ (omega arith) (omega arith) (ap not (kind-test e h is_client)) λ k.
      test 12 _ _ _ _ (omega arith) (omega arith) (away-same e h (not_f (is_client (R e).kind) k)) λ _. rest [] [] refl refl (done-alike st st' _ _)

  -- ---- the server's
  fetch-alike : (e : ℕ) → Alikes (Fetch p e)
  unfolding refusals refusals_fetch effect all seen_request
  fetch-alike e =
      test 7 _ _ _ _ (omega arith) (omega arith) (held_same e) λ h.
      test 8 _ _ _ _ (omega arith) (omega arith) (ap not (kind-test e h is_server)) λ k.
      test 11 _ _ _ _ (omega arith) (omega arith) (ap (λ x. eqb x.number 0 || x.fetched) (request-same e h (not_f (is_server (R e).kind) k))) λ f. rest [] [] refl refl (fetched (request-same e h (not_f (is_server (R e).kind) k)) (or-fr (eqb (asked_of st e).number 0) (is_fetched (asked_of st e)) f))
    where
      v : Request
      v = asked_of st e

      v' : Request
      v' = asked_of st' e

      fetched : seen_request st p v ≡ seen_request st' p v' → is_fetched v ≡ false → Accepts st st' (effect st (Fetch p e)) (effect st' (Fetch p e))
      fetched q f = record { first = unfold fetched_answer refusal_of in refl; second = unfold fetched_answer refusal_of in refl; alike = same_answer answer (unfold fetched_answer refusal_of in refl) }
        where
          f' : is_fetched v' ≡ false
          f' = sym (ap (λ x. x.fetched) q) ∙ f

          items : v.items ≡ v'.items
          items = sym (ap (λ b. if b then [] else v.items) f) ∙ ap (λ x. x.items) q ∙ ap (λ b. if b then [] else v'.items) f'

          number-so : v.number ≡ v'.number
          number-so = ap (λ x. x.number) q

          answer : fetched_answer v ≡ fetched_answer v'
          answer = unfold fetched_answer in (ap₂ Fetched number-so items)

  answer-alike : (e : ℕ) (served : Bool) → Alikes (Call.Answer p e served)
  unfolding refusals refusals_answer effect all seen_request seen_end is_away
  answer-alike e served =
      test 7 _ _ _ _ (omega arith) (omega arith) (held_same e) λ h.
      test 8 _ _ _ _ (omega arith) (omega arith) (ap not (kind-test e h is_server)) λ k.
      test 10 _ _ _ _ (omega arith) (omega arith) (ap (λ b. served && b) (busy (request-same e h (not_f (is_server (R e).kind) k)))) λ _.
      test 11 _ _ _ _ (omega arith) (omega arith) (ap (λ x. eqb x.number 0 || (served && not x.fetched)) (request-same e h (not_f (is_server (R e).kind) k))) λ _.
      test 14 _ _ _ _ (omega arith) (omega arith) (ap (λ b. served && b) (away (request-same e h (not_f (is_server (R e).kind) k)))) λ _. rest [] [] refl refl (done-alike st st' _ _)
    where
      busy-of : SeenEnd → Bool
      busy-of z = z.busy

      away_of : SeenEnd → Bool
      away_of z = not z.mine || z.newer

      busy : seen_request st p (asked_of st e) ≡ seen_request st' p (asked_of st' e)
          → any (λ x. has_open st (row_of st.rows x).object) (lent_ends st (asked_of st e)) ≡ any (λ x. has_open st' (row_of st'.rows x).object) (lent_ends st' (asked_of st' e))
      busy q =
          sym (any-mapped busy-of (seen_end st p (asked_of st e)) (lent_ends st (asked_of st e))) ∙ ap (λ x. any busy-of x.ends) q
          ∙ any-mapped busy-of (seen_end st' p (asked_of st' e)) (lent_ends st' (asked_of st' e))

      twice : (a b : Bool) → a || b ≡ not (not a) || b
      twice true b = refl
      twice false b = refl

      away : seen_request st p (asked_of st e) ≡ seen_request st' p (asked_of st' e)
          → any (is_away st p (asked_of st e)) (lent_ends st (asked_of st e)) ≡ any (is_away st' p (asked_of st' e)) (lent_ends st' (asked_of st' e))
      away q =
          any-eq (is_away st p (asked_of st e)) (λ x. away_of (seen_end st p (asked_of st e) x)) (λ x. twice (not_held st p x) _) (lent_ends st (asked_of st e))
          ∙ sym (any-mapped away_of (seen_end st p (asked_of st e)) (lent_ends st (asked_of st e))) ∙ ap (λ x. any away_of x.ends) q
          ∙ any-mapped away_of (seen_end st' p (asked_of st' e)) (lent_ends st' (asked_of st' e))
          ∙ sym (any-eq (is_away st' p (asked_of st' e)) (λ x. away_of (seen_end st' p (asked_of st' e) x)) (λ x. twice (not_held st' p x) _) (lent_ends st' (asked_of st' e)))

  -- ---- revoke
  open-asked : (x : State) → Sound x → (q : ℕ)
      → eqb (request_of x.requests q).number 0 || not (eqb (request_of x.requests q).asker p) ≡ not (member q (map (λ v. v.number) x.requests) && eqb (request_of x.requests q).asker p)
  open-asked x sx q = pick (true-or-false (member q (map (λ v. v.number) x.requests)))
    where
      pick : (member q (map (λ v. v.number) x.requests) ≡ true) ⊎ (member q (map (λ v. v.number) x.requests) ≡ false)
          → eqb (request_of x.requests q).number 0 || not (eqb (request_of x.requests q).asker p) ≡ not (member q (map (λ v. v.number) x.requests) && eqb (request_of x.requests q).asker p)
      pick (inl t) =
          let lo = request-low x sx q t in
          rw (request-number x q t, ne_eqb q 0 (λ z. omega arith), t) refl
      pick (inr t) = rw t (unfold request_of no_request in (rw (first-none (λ v. v.number) no_request x.requests q t) refl))

  revoke-alike : (q : ℕ) → Alikes (Revoke p q)
  unfolding refusals refusals_revoke effect all
  revoke-alike q =
      test 7 _ _ _ _ (omega arith) (omega arith) (open-asked st s q ∙ ap not (asked-alike st st' s s' p same q) ∙ sym (open-asked st' s' q)) λ _. rest [] [] refl refl (done-alike st st' _ _)

  -- ---- hold
  abbrev v : ℕ
  v = (process_at st.processes p).through

  abbrev active : ℕ
  active = (process_at st.processes p).active

  through-held : some v ≡ true → not_held st p v ≡ false
  unfolding not_held
  through-held h = ap not (eq-eqb (R v).place (in_clist p) (through-at st s p h).place)

  through-row : R v ≡ R' v
  through-row = ⊎_elim (λ h. row_same v (through-held h)) (λ h. subst (λ k. R k ≡ R' k) (sym (none-zero v h)) zero_same) (true-or-false (some v))

  through-lent : some v && is_lent st v ≡ some v && is_lent st' v
  through-lent = pick (some v) refl
    where
      pick : (b : Bool) → some v ≡ b → b && is_lent st v ≡ b && is_lent st' v
      pick true h = lent_same v (through-held h) (subdirectory-no-end (R v).kind (through-at st s p h).kind)
      pick false h = refl

  hold-alike : is_listed st.processes p ≡ true → (e : ℕ) → Alikes (Hold p e)
  unfolding refusals refusals_hold effect all depth_over
  hold-alike l e =
      test 7 _ _ _ _ (omega arith) (omega arith) (ap not (picked-alike st st' s s' here none (node_alike st st' s s' p same) e) ∙ ap (λ x. not (eqb (R' e).place (in_node x.active))) rec) λ h.
      test 9 _ _ _ _ (omega arith) (omega arith) (ap (λ r. not (may_hold r.rights)) (row h)) λ _.
      test 12 _ _ _ _ (omega arith) (omega arith) (ap₂ (λ r b. is_subdirectory r.kind && b) (row h) through-lent ∙ ap (λ x. is_subdirectory (R' e).kind && (some x.through && is_lent st' x.through)) rec) λ _.
      test 15 _ _ _ _ (omega arith) (omega arith) (ap too_deep (ap₂ (λ a b. suc (max a.depth b.depth)) (row h) through-row ∙ ap (λ x. suc (max (R' e).depth (R' x.through).depth)) rec)) λ _.
      rest _ _ refl refl (made_alike st st' _ _)
    where
      rec : process_at st.processes p ≡ process_at st'.processes p
      rec = record-alike st st' s s' p same

      here : Row → Bool
      here r = eqb r.place (in_node active)

      none : here no_row ≡ false
      none = unfold no_row in_node in (ne_eqb 0 active (λ z. clash (active-node st s.placed p l) (ap is_node (sym z) ∙ (unfold is_node between in refl))))

      row : not (eqb (R e).place (in_node active)) ≡ false → R e ≡ R' e
      row h = picked_same st st' s s' here none (node_alike st st' s s' p same) e (not_f _ h)

  -- ---- register
  -- a row that may be registered is at least as deep as the row registered would be
  never-deep : (x : State) → Sound x → (e : ℕ) → eqb (row_of x.rows e).place (in_clist p) ≡ true → is_end (row_of x.rows e).kind ≡ false → is_lent x e ≡ false → too_deep (registered_depth x e) ≡ false
  unfolding too_deep depth_over has_right_depth depths_right no_row
  never-deep x sx e h k u =
      let r = row_of x.rows e in
      let there = clist-there x.rows p e h in
      let d = sourced-at x sx.numbers sx.rows e there has_right_depth sx.rows.depths-right in
      let deep : r.depth ≡ suc (max (row_of x.rows r.source).depth (row_of x.rows r.via).depth) = eqb-true r.depth _ (and_l (eqb r.depth _) (leb r.depth greatest_depth) d) in
      let most = leb-true r.depth greatest_depth (and_r (eqb r.depth (suc (max (row_of x.rows r.source).depth (row_of x.rows r.via).depth))) (leb r.depth greatest_depth) d) in
      let zero : (row_of x.rows 0).depth ≡ 0 = ap (λ r. r.depth) (no-row-zero x sx) in
      le-ltb greatest_depth (suc (max (row_of x.rows r.source).depth (row_of x.rows 0).depth)) (omega arith)

  register-alike : (e : ℕ) → Alikes (Register p e)
  unfolding refusals refusals_register effect all not_held
  register-alike e =
      test 7 _ _ _ _ (omega arith) (omega arith) (held_same e) λ h.
      test 8 _ _ _ _ (omega arith) (omega arith) (kind-test e h is_end) λ k.
      test 9 _ _ _ _ (omega arith) (omega arith) (ap (λ r. not (may_register r.rights)) (row_same e h)) λ _.
      test 12 _ _ _ _ (omega arith) (omega arith) (lent_same e h k) λ u.
      test 15 _ _ _ _ (omega arith) (omega arith)
      (never-deep st s e (mine e h) k u ∙ sym (never-deep st' s' e (sym (held-alike st st' s s' p same e) ∙ mine e h) (sym (kind-test e h is_end) ∙ k) (sym (lent_same e h k) ∙ u))) λ _.
      rest _ _ refl refl (made_alike st st' _ _)

  -- ---- ask
  module _ (c : ℕ) (is : List Item) where
    free : Item → Bool
    free i = not (not_held st p i.row)

    item-same : (i : Item) → free i ≡ true → item_row st i ≡ item_row st' i
    unfolding item_row free
    item-same i h = row_same i.row (not_t (not_held st p i.row) h)

    moves-same : (i : Item) → free i ≡ true → moves st i ≡ moves st' i
    unfolding moves
    moves-same i h = ap (λ r. is_end r.kind) (item-same i h)

    lacks-same : (i : Item) → free i ≡ true → lacks_right st i ≡ lacks_right st' i
    unfolding lacks_right moves
    lacks-same i h = ap (λ r. (not (is_end r.kind) && not (may_transfer r.rights)) || not (within i.rights r.rights)) (item-same i h)

    busy-item : (i : Item) → free i ≡ true → is_busy st c i ≡ is_busy st' c i
    unfolding is_busy moves item_row free
    busy-item i h = pick (is_end (R i.row).kind) refl
      where
        held : not_held st p i.row ≡ false
        held = not_t (not_held st p i.row) h

        pick : (b : Bool) → is_end (R i.row).kind ≡ b
            → is_end (R i.row).kind && (eqb (R i.row).object c || has_open st (R i.row).object) ≡ is_end (R' i.row).kind && (eqb (R' i.row).object c || has_open st' (R' i.row).object)
        pick true k = ap₂ (λ r b. is_end r.kind && (eqb r.object c || b)) (row_same i.row held) (busy-same i.row held k)
        pick false k = ap (λ b. b && (eqb (R i.row).object c || has_open st (R i.row).object)) k ∙ sym (ap (λ b. b && (eqb (R' i.row).object c || has_open st' (R' i.row).object)) (sym (kind-test i.row held is_end) ∙ k))

    deep-item : not_held st p c ≡ false → (i : Item) → free i ≡ true → too_deep (copy_depth st c i) ≡ too_deep (copy_depth st' c i)
    unfolding copy_depth depth_over free
    deep-item h i f = ap too_deep (ap₂ (λ a b. suc (max a.depth b.depth)) (row_same i.row (not_t (not_held st p i.row) f)) (row_same c h))

    -- the client end's own port
    port-busy : not_held st p c ≡ false → is_client (R c).kind ≡ true → has_open st c ≡ has_open st' c
    port-busy h k =
        let own : (R c).object ≡ c = client-object st.processes (R c) (row-object st s.rows c (there c h)) k ∙ number c h in
        ap (has_open st) (sym own) ∙ busy-same c h (client-is-end (R c).kind k) ∙ ap (has_open st') (ap (λ r. r.object) (sym (row_same c h)) ∙ own)

    copies-same : all free is ≡ true → copies st is ≡ copies st' is
    unfolding copies
    copies-same a = filter_same free (λ i. not (moves st i)) (λ i. not (moves st' i)) (λ i h. ap not (moves-same i h)) is a

    asks-alike : (E : Type 0) → E → Agreeing E (refusals_ask st p c is) (refusals_ask st' p c is)
    unfolding refusals_ask all free
    asks-alike E x =
        test 7 _ _ _ _ (omega arith) (omega arith) (ap₂ (λ a b. a || b) (held_same c) (any-eq (λ i. not_held st p i.row) (λ i. not_held st' p i.row) (λ i. held_same i.row) is)) λ n.
        test 8 _ _ _ _ (omega arith) (omega arith) (ap not (kind-test c (port n) is_client)) λ k.
        test 9 _ _ _ _ (omega arith) (omega arith) (any-on-all free (lacks_right st) (lacks_right st') lacks-same is (items n)) λ _.
        test 10 _ _ _ _ (omega arith) (omega arith) (ap₂ (λ a b. a || b) (port-busy (port n) (not_f (is_client (R c).kind) k)) (any-on-all free (is_busy st c) (is_busy st' c) busy-item is (items n))) λ _.
        test 15 _ _ _ _ (omega arith) (omega arith)
        (any-on-all free (λ i. too_deep (copy_depth st c i)) (λ i. too_deep (copy_depth st' c i)) (deep-item (port n)) (copies st is) (unfold copies in all_filter (λ i. not (moves st i)) free is (items n))
        ∙ ap (any (λ i. too_deep (copy_depth st' c i))) (copies-same (items n))) λ _.
        rest _ _ refl refl x
      where
        port : not_held st p c || any (λ i. not_held st p i.row) is ≡ false → not_held st p c ≡ false
        port n = or-fl (not_held st p c) _ n

        items : not_held st p c || any (λ i. not_held st p i.row) is ≡ false → all free is ≡ true
        items n = none-all (λ i. not_held st p i.row) is (or-fr (not_held st p c) _ n)

  ask-alike : (c : ℕ) (is : List Item) → Alikes (Ask p c is)
  unfolding refusals effect
  ask-alike c is = asks-alike c (items_of is) _ (made_alike st st' _ _)

  -- ---- every call of p
  by_call : is_listed st.processes p ≡ true → 0 < p → (c : Call) → caller_of c ≡ p → Alikes c
  unfolding caller_of
  by_call l lo (Go q e) z = subst (λ k. Alikes (Go k e)) (sym z) (go-alike e)
  by_call l lo (Hold q e) z = subst (λ k. Alikes (Hold k e)) (sym z) (hold-alike l e)
  by_call l lo (Register q e) z = subst (λ k. Alikes (Register k e)) (sym z) (register-alike e)
  by_call l lo (Drop q e) z = subst (λ k. Alikes (Drop k e)) (sym z) (drop-alike e)
  by_call l lo (Port q e) z = subst (λ k. Alikes (Port k e)) (sym z) (port-alike e)
  by_call l lo (Close q e) z = subst (λ k. Alikes (Close k e)) (sym z) (close-alike e)
  by_call l lo (Ask q c is) z = subst (λ k. Alikes (Ask k c is)) (sym z) (ask-alike c is)
  by_call l lo (Fetch q e) z = subst (λ k. Alikes (Fetch k e)) (sym z) (fetch-alike e)
  by_call l lo (Call.Answer q e served) z = subst (λ k. Alikes (Call.Answer k e served)) (sym z) (answer-alike e served)
  by_call l lo (Revoke q e) z = subst (λ k. Alikes (Revoke k e)) (sym z) (revoke-alike e)
  by_call l lo (Comes e q) z = absurd (omega arith)
  by_call l lo (Chain e) z = absurd (omega arith)
  by_call l lo (ComesAll es qs) z = absurd (omega arith)

  -- 5 comes first: who is not listed in one is not in the other
  answers-alike : 0 < p → (c : Call) → caller_of c ≡ p → Alike st st' (answered st (Asks c)).answer (answered st' (Asks c)).answer
  unfolding answered perform
  answers-alike lo c z = pick (true-or-false (is_listed st.processes p))
    where
      listed : is_listed st.processes p ≡ is_listed st'.processes p
      listed = unfold is_listed in (ap (λ x. some x.prime) (record-alike st st' s s' p same))

      unlisted : (x : State) → caller_unlisted x c ≡ not (is_listed x.processes p)
      unlisted x = unfold caller_unlisted in (ap (λ k. some k && not (is_listed x.processes k)) z ∙ ap (λ b. b && not (is_listed x.processes p)) (pos-some p lo))

      pick : (is_listed st.processes p ≡ true) ⊎ (is_listed st.processes p ≡ false) → Alike st st' (judge st (5 when caller_unlisted st c ∷ []) (perform st c)).answer (judge st' (5 when caller_unlisted st' c ∷ []) (perform st' c)).answer
      pick (inl l) =
          rw (unlisted st ∙ ap not l, unlisted st' ∙ ap not (sym listed ∙ l))
          (unfold judge lowest in (judged-alike st st' (refusals st c) (refusals st' c) (effect st c) (effect st' c) (by_call l lo c z)))
      pick (inr l) =
          rw (unlisted st ∙ ap not l, unlisted st' ∙ ap not (sym listed ∙ l))
          (unfold judge lowest refused in (both-refused 5 (omega arith) refl refl))

pub view-decides : ViewDecides
unfolding ViewDecides
view-decides st st' h h' p lo same c z = answers-alike st st' (sound-open st h) (sound-open st' h') p same lo c z

pub isolation : Isolation
unfolding Isolation
isolation st st' c h k p lo same d z =
    let s = sound-open st h in
    answers-alike st st' s (step-sound st st' c s k) p same lo d z
