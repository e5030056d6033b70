-- Where everything is, of every session: the invariant at the opening and after each accepted call.
use Prim.Native.Nat.{ℕ, ◌<◌}
use native.Mathlib.Omega.{arith}
use mathlib.Core.Bool.{Bool, true, false, not, cond, ◌||◌}
use mathlib.Core.List.{List, [], ◌∷◌, map}
use mathlib.Core.Path.{◌≡◌, refl, sym, ap, ◌∙◌, subst}
use mathlib.Core.Logic.{⊎_elim}
use lib.Dec.{eqb}
use borrow.Author.Tests.{eqb-true}
use Rattle.rows.specs.declared.Row.{Row}
use Rattle.rows.specs.declared.Request.{Request}
use Rattle.std.specs.Prelude.{if◌then◌else◌}
use Rattle.rows.specs.Lists.{filter, all, first_with, rises, member, some}
use Rattle.rows.specs.Codes.{operation, client_end, server_end, is_operation, is_client, is_server, is_end, in_clist, with_system, is_clist}
use Rattle.rows.specs.Tables.{State, no_row, no_request, row_of, request_of, is_listed, numbers, lists}
use Rattle.rows.specs.Setters.{with_place}
use Rattle.rows.specs.Sound.{requests_rise, is_fetched}
use Rattle.rows.proofs.Bools.{clash, false_of, and_l, and_r, not_t, or-false, some-pos, pos-some, eqb-sym, true-or-false}
use Rattle.rows.proofs.Keyed.{rises-rest}
use Rattle.rows.proofs.Places.{copied-no-end}
use Rattle.rows.proofs.RowSources.{row-there}
use Rattle.tables.proofs.Picked.{all_found}
use Rattle.tables.proofs.Sound.{Sound}
use Rattle.tables.proofs.SoundFacts.{row_below, clist-is, manager-listed, row-object}
use Rattle.closing.proofs.Facts.{copy_at, copy-listed, lists-open}
use Rattle.closing.proofs.Lookups.{left-stood}
use Rattle.calls.specs.declared.Item.{Item}
use Rattle.calls.specs.declared.Call.{Call}
use Rattle.calls.specs.declared.Call.TheVariants.{Ask}
use Rattle.calls.specs.Rules.{with_new_rows, with_record, copy_of}
use Rattle.calls.specs.Loans.{items_of, item_row, moves, copy_lent, new_request}
use Rattle.kept.proofs.AddRow.{none-lists}
use Rattle.kept.proofs.AskCopy.{lendable}
use Rattle.kept.proofs.AskFacts.{asked, asked_state, lists-copy}
use Rattle.calls.specs.Calls.{port_end, effect}
use Rattle.text.specs.Opening.{Form, opens, lines_of, opening_of}
use Rattle.text.specs.Entry.{state_opened}
use Rattle.history.proofs.KeptCalls.{effect-kept}
use Rattle.security.specs.Sessions.{IsRow, IsOpen, Log, logged, fetcher_of, Session}
use Rattle.security.specs.Places.{home_of, listers, whereabouts, Lenders, Places, WhereEverythingIs}
use Rattle.security.proofs.Rows.{filter_none, source-listed, node-no-end, source-no-end, Sort, text-row, registered-row, held-row, end_row, copy, sort-of, borne-by, clist-no-system}
use Rattle.security.proofs.Numbers.{source_row}
use Rattle.security.proofs.Effects.{Adds, holds, registers, makes, Effect, tells, moves-to, adds, asks, fetches, shuts-off, effect_of}
use Rattle.security.proofs.Opened.{opened-text}
use Rattle.security.proofs.Sessions.{session-sound, session-has}
use Rattle.security.proofs.NewRows.{Newly, held, registered, client, server, copied, adds-new, asks-new, fetched-rows, new_row}
use Rattle.security.proofs.Frames.{same-but-place, same_row, source-kept}
use Rattle.security.proofs.Places.{Line, old-line}

-- ---- new rows
pub end-kinds : (is_end client_end ≡ true) × (is_end server_end ≡ true)
unfolding is_end is_client is_server client_end server_end
end-kinds = (refl, refl)

module _ (st : State) (s : Sound st) where
  -- a new end is at home, and its operation row is with a process
  record AtHome (r : Row) : Type 0 where
    at : r.place ≡ home_of st r
    source : IsRow st r.source
    owned : is_clist (row_of st.rows r.source).place ≡ true

  new_home : (c : Call) (n : ℕ) (r : Row) → Newly st c n r → is_end r.kind ≡ true → AtHome r
  unfolding copy_of port_end copy_lent item_row home_of is_client client_end server_end
  new_home c n r (held p e a) k = clash k (node-no-end st s e a.node)
  new_home c n r (registered p e a) k = clash k a.no_end
  new_home c n r (client p e a) k =
      let here : (row_of st.rows e).place ≡ in_clist p = eqb-true _ (in_clist p) a.row.place in
      record { at = sym here; source = a.row.there; owned = ap is_clist here ∙ clist-is st s.placed p a.caller }
  new_home c n r (server p e a) k =
      let here : (row_of st.rows e).place ≡ in_clist p = eqb-true _ (in_clist p) a.row.place in
      record { at = refl; source = a.row.there; owned = ap is_clist here ∙ clist-is st s.placed p a.caller }
  new_home c n r (copied p d is a n' i m g l) k =
      clash k (unfold lendable moves item_row in (let no_end : not (is_end (row_of st.rows i.row).kind) ≡ true = search and_l in not_t _ no_end))

  copy-no-end : (p d : ℕ) (is : List Item) (n : ℕ) (r : Row) → Newly st (Ask p d is) n r → is_end r.kind ≡ false
  unfolding copy_lent copy_of item_row lendable moves
  copy-no-end p d is n r (copied p' d' is' a n' i m g l) = let no_end : not (is_end (row_of st.rows i.row).kind) ≡ true = search and_l in not_t _ no_end

  copy-with-system : (p d : ℕ) (is : List Item) (n : ℕ) (r : Row) → Newly st (Ask p d is) n r → (r.place ≡ with_system) × (st.next < n)
  unfolding copy_lent copy_of
  copy-with-system p d is n r (copied p' d' is' a n' i m g l) = (refl, l)

  -- no request lists a new end
  none-listers : (n : ℕ) → (IsRow st n → ⊥) → listers n st.requests ≡ []
  unfolding listers
  none-listers n u = filter_none (lists n) st.requests (none-lists st.rows st.requests s.loans.items-lent n (false_of (member n (numbers st.rows)) u))

  pub new-unlisted : (c : Call) (st' : State) → Effect st c st' → (n : ℕ) → IsRow st' n → (IsRow st n → ⊥) → is_end (row_of st'.rows n).kind ≡ true → listers n st'.requests ≡ []
  unfolding with_new_rows with_record
  new-unlisted c st' (tells c' x) n t u k = absurd (u t)
  new-unlisted c st' (moves-to p e a) n t u k = absurd (u t)
  new-unlisted c st' (adds c' rs m a z) n t u k = none-listers n u
  new-unlisted c st' (asks p d is a) n t u k = clash k (copy-no-end p d is n _ (asks-new st s p d is a n t u))
  new-unlisted c st' (fetches p e a) n t u k = absurd (u (fetched-rows st p e n t))
  new-unlisted c st' (shuts-off c' g f x m) n t u k = absurd (u (left-stood g f st n t))

  -- a new copy lies with the system
  no-request : (c : Call) (rs : List Row) → Adds st c rs → (n : ℕ) (r : Row) → Newly st c n r → some r.request ≡ false
  unfolding copy_of port_end some
  no-request c rs (holds p e a) n r (held p' e' x) = refl
  no-request c rs (registers p e a) n r (registered p' e' x) = refl
  no-request c rs (makes p e a) n r (client p' e' x) = refl
  no-request c rs (makes p e a) n r (server p' e' x) = refl

  new-copy : (c : Call) (st' : State) → Sound st' → Effect st c st' → (log : Log) (n : ℕ) → IsRow st' n → (IsRow st n → ⊥) → some (row_of st'.rows n).request ≡ true
      → (row_of st'.rows n).place ≡ whereabouts log 0 (listers n st'.requests)
  unfolding with_new_rows with_record
  new-copy c st' s' (tells c' x) log n t u k = absurd (u t)
  new-copy c st' s' (moves-to p e a) log n t u k = absurd (u t)
  new-copy c st' s' (adds c' rs m a z) log n t u k = clash k (no-request c rs a n _ (adds-new st c rs a n t u))
  new-copy c st' s' (asks p d is a) log n t u k =
      let (place, above) = copy-with-system p d is n _ (asks-new st s p d is a n t u) in
      let below = (row_below (asked_state st p d (items_of is)) s'.numbers n t).1 in
      place ∙ sym (newest (lists-copy st s p d (items_of is) a n (omega arith) below))
    where
      newest : lists n (asked st p d (items_of is)) ≡ true → whereabouts log 0 (listers n (asked st p d (items_of is) ∷ st.requests)) ≡ with_system
      newest l = unfold listers filter whereabouts in (rw l (unfold is_fetched new_request in refl))
  new-copy c st' s' (fetches p e a) log n t u k = absurd (u (fetched-rows st p e n t))
  new-copy c st' s' (shuts-off c' g f x m) log n t u k = absurd (u (left-stood g f st n t))

-- ==== the invariant
pub record EndAt (log : Log) (st : State) (n : ℕ) : Type 0 where
  pub line : Line log (home_of st (row_of st.rows n)) (row_of st.rows n) (listers n st.requests)
  pub owned : is_clist (row_of st.rows (row_of st.rows n).source).place ≡ true

pub record Held (log : Log) (st : State) : Type 0 where
  pub ends : (n : ℕ) → IsRow st n → is_end (row_of st.rows n).kind ≡ true → EndAt log st n
  pub copies : (n : ℕ) → IsRow st n → some (row_of st.rows n).request ≡ true → (row_of st.rows n).place ≡ whereabouts log 0 (listers n st.requests)

pub operation-row : (rs : List Row) (n : ℕ) → is_operation (row_of rs n).kind ≡ true → member n (numbers rs) ≡ true
unfolding no_row is_operation operation
operation-row = row-there (λ r. is_operation r.kind) refl

-- an end has an operation row for its source
pub end-source : (st : State) → Sound st → (n : ℕ) → IsRow st n → is_end (row_of st.rows n).kind ≡ true
    → (some (row_of st.rows n).source ≡ true) × (is_operation (row_of st.rows (row_of st.rows n).source).kind ≡ true)
end-source st s n t k = pick (sort-of st s n t)
  where
    r : Row
    r = row_of st.rows n

    pick : Sort st.requests r (row_of st.rows r.source) (row_of st.rows r.via) → (some r.source ≡ true) × (is_operation (row_of st.rows r.source).kind ≡ true)
    pick (text-row x) = clash k (copied-no-end r.kind x.copied)
    pick (registered-row x) = clash k (copied-no-end r.kind x.copied)
    pick (held-row x) = clash k (copied-no-end r.kind x.copied)
    pick (end_row x) = (pos-some r.source (row_below st s.numbers r.source (operation-row st.rows r.source x.source)).0, x.source)
    pick (copy x) = clash k (copied-no-end r.kind x.copied)

module _ (st st' : State) (c : Call) (s : Sound st) (s' : Sound st') (x : Effect st c st') (log : Log) (h : Held log st) where
  -- a row with a process that is no end is as it was
  kept_row : (m : ℕ) → IsRow st m → IsRow st' m → is_end (row_of st.rows m).kind ≡ false → is_clist (row_of st.rows m).place ≡ true → row_of st'.rows m ≡ row_of st.rows m
  kept_row m t t' e p = same_row st st' c s x m t t' e (clist-no-system _ p)

  -- the home of an end stays, for its operation row does
  module _ (n : ℕ) (t : IsRow st n) (t' : IsRow st' n) (k : is_end (row_of st.rows n).kind ≡ true) where
    source-same : (row_of st'.rows n).source ≡ (row_of st.rows n).source
    unfolding with_place
    source-same = same-but-place st st' c s x n t t' (λ r. r.source) (λ p r. refl)

    operation-same : row_of st'.rows (row_of st.rows n).source ≡ row_of st.rows (row_of st.rows n).source
    operation-same =
        let some-source = (end-source st s n t k).0 in
        let (there, there') = source-kept st st' c s s' x n t t' some-source in
        kept_row (row_of st.rows n).source there there' (source-no-end st s n t some-source) (h.ends n t k).owned

    pub home-kept : home_of st' (row_of st'.rows n) ≡ home_of st (row_of st.rows n)
    unfolding home_of with_place
    home-kept = rw (source-same, same-but-place st st' c s x n t t' (λ r. r.kind) (λ p r. refl), operation-same) refl

    old-end : EndAt (logged st c log) st' n
    old-end =
        let at = h.ends n t k in
        record {
          line =
              subst (λ y. Line (logged st c log) y (row_of st'.rows n) (listers n st'.requests)) (sym home-kept)
              (old-line st st' c s x log (home_of st (row_of st.rows n)) n t t' at.line);
          owned = ap (λ y. is_clist (row_of st'.rows y).place) source-same ∙ ap (λ y. is_clist y.place) operation-same ∙ at.owned;
        }

  new-end : (n : ℕ) → IsRow st' n → (IsRow st n → ⊥) → is_end (row_of st'.rows n).kind ≡ true → EndAt (logged st c log) st' n
  new-end n t' u k =
      let r = row_of st'.rows n in
      let at = new_home st s c n r (new_row st s c st' x n t' u) k in
      let some-source = (end-source st' s' n t' k).0 in
      let there' : IsRow st' r.source = source_row st' s' n r.source t' (source-listed r some-source) in
      let o : row_of st'.rows r.source ≡ row_of st.rows r.source =
      kept_row r.source at.source there' (sym (ap is_end (same-but-place st st' c s x r.source at.source there' (λ r. r.kind) (λ p r. unfold with_place in refl))) ∙ source-no-end st' s' n t' some-source) at.owned in
      record {
        line = subst (Line (logged st c log) (home_of st' r) r) (sym (new-unlisted st s c st' x n t' u k))
            (record { at = at.at ∙ sym (home-so r o); lenders = λ e. (unfold Lenders in tt) });
        owned = ap (λ y. is_clist y.place) o ∙ at.owned;
      }
    where
      home-so : (r : Row) → row_of st'.rows r.source ≡ row_of st.rows r.source → whereabouts (logged st c log) (home_of st' r) [] ≡ home_of st r
      home-so r o = unfold home_of whereabouts in (rw o refl)

  pub held_kept : Held (logged st c log) st'
  unfolding with_place
  held_kept =
      record {
        ends = λ n t' k. ⊎_elim (λ t. old-end n t t' (sym (ap is_end (same-but-place st st' c s x n t t' (λ r. r.kind) (λ p r. refl))) ∙ k)) (λ u. new-end n t' (λ t. clash t u) k) (true-or-false (member n (numbers st.rows)));
        copies = λ n t' k.
            ⊎_elim (λ t. old-copy n t t' (sym (ap some (same-but-place st st' c s x n t t' (λ r. r.request) (λ p r. refl))) ∙ k)) (λ u. new-copy st s c st' s' x (logged st c log) n t' (λ t. clash t u) k) (true-or-false (member n (numbers st.rows)));
      }
    where
      old-copy : (n : ℕ) → IsRow st n → IsRow st' n → some (row_of st.rows n).request ≡ true → (row_of st'.rows n).place ≡ whereabouts (logged st c log) 0 (listers n st'.requests)
      old-copy n t t' b =
          (old-line st st' c s x log 0 n t t' (record { at = h.copies n t b; lenders = λ e. clash e (copy_at st s n t b).no_end })).at

-- at the opening there are neither ends nor copies
held-opened : (text : List ℕ) (rest : List (List ℕ)) (fs : List Form) → opening_of (lines_of text) ≡ opens fs rest → Held [] (state_opened fs)
held-opened text rest fs e =
    record {
      ends = λ n t k. clash k (copied-no-end (row_of (state_opened fs).rows n).kind (opened-text text rest fs e n t).copied);
      copies = λ n t b. let z = (opened-text text rest fs e n t).request in let l = some-pos (row_of (state_opened fs).rows n).request b in absurd (omega arith);
    }

pub session-held : (fs : List Form) (log : Log) (st : State) → Session fs log st → Held log st
session-held fs =
    session-has Held fs (λ text rest e. held-opened text rest fs e)
    (λ log st c s a h. held_kept st (effect st c).after c s (effect-kept st s c a) (effect_of st s c a) log h)

-- ==== where everything is
-- the request that a copy bears alone lists it
module _ (log : Log) (n q home : ℕ) where
  only-lister : (vs : List Request) → rises (λ v. v.number) vs ≡ true → member q (map (λ v. v.number) vs) ≡ true → lists n (request_of vs q) ≡ true
      → all (λ v. not (lists n v) || eqb v.number q) vs ≡ true
      → whereabouts log home (listers n vs) ≡ (if is_fetched (request_of vs q) then in_clist (fetcher_of log (request_of vs q).number) else with_system)
  unfolding request_of first_with member all listers filter
  only-lister [] up m l a = clash m refl
  only-lister (v ∷ vs) up m l a =
      pick (only-lister vs (rises-rest (λ v. v.number) v vs up)) (eqb v.number q) refl m l (and_l (not (lists n v) || eqb v.number q) _ a) (and_r (not (lists n v) || eqb v.number q) _ a)
    where
      found : Request
      found = first_with (λ v. v.number) no_request vs q

      pick : (member q (map (λ v. v.number) vs) ≡ true → lists n found ≡ true → all (λ v. not (lists n v) || eqb v.number q) vs ≡ true
          → whereabouts log home (filter (lists n) vs) ≡ (if is_fetched found then in_clist (fetcher_of log found.number) else with_system))
          → (b : Bool) → eqb v.number q ≡ b → eqb q v.number || member q (map (λ v. v.number) vs) ≡ true → lists n (cond b v found) ≡ true
          → not (lists n v) || b ≡ true → all (λ v. not (lists n v) || eqb v.number q) vs ≡ true
          → whereabouts log home (cond (lists n v) (v ∷ filter (lists n) vs) (filter (lists n) vs)) ≡ (if is_fetched (cond b v found) then in_clist (fetcher_of log (cond b v found).number) else with_system)
      pick ih true z m l h a = rw l (unfold whereabouts in refl)
      pick ih false z m l h a = rw (not_t (lists n v) (sym (or-false (not (lists n v))) ∙ h)) (ih (rw (eqb-sym q v.number, z) at m) l a)

places : (log : Log) (st : State) → Sound st → Held log st → Places log st
places log st s h =
    record {
      ends = λ n t k. (h.ends n t k).line.at;
      homes = λ n t k. home-clist n t k;
      lenders = λ n t k. (h.ends n t k).line.lenders k;
      copies = λ n t b. h.copies n t b ∙ copy-at-request n t b;
    }
  where
    home-clist : (n : ℕ) → IsRow st n → is_end (row_of st.rows n).kind ≡ true → is_clist (home_of st (row_of st.rows n)) ≡ true
    home-clist n t k = unfold home_of in (pick (is_client (row_of st.rows n).kind))
      where
        m : ℕ
        m = (row_of st.rows n).source

        manager : is_listed st.processes (row_of st.rows m).object ≡ true
        manager =
            manager-listed st.processes (row_of st.rows m) (row-object st s.rows m (operation-row st.rows m (end-source st s n t k).1)) (end-source st s n t k).1

        pick : (b : Bool) → is_clist (if b then (row_of st.rows m).place else in_clist (row_of st.rows m).object) ≡ true
        pick true = (h.ends n t k).owned
        pick false = clist-is st s.placed (row_of st.rows m).object manager

    copy-at-request : (n : ℕ) → IsRow st n → some (row_of st.rows n).request ≡ true →
        let v = request_of st.requests (row_of st.rows n).request in
        whereabouts log 0 (listers n st.requests) ≡ (if is_fetched v then in_clist (fetcher_of log v.number) else with_system)
    copy-at-request n t b =
        let q = (row_of st.rows n).request in
        let l = copy-listed st s n t b in
        let o : IsOpen st q = lists-open st n q l in
        only-lister log n q 0 st.requests (unfold requests_rise in s.numbers.requests-rise) o l
        (unfold requests_rise request_of in all_found (λ v. v.number) no_request (λ v. not (lists n v) || eqb v.number q) st.requests s.numbers.requests-rise (alone n t b))
      where
        alone : (n : ℕ) → IsRow st n → some (row_of st.rows n).request ≡ true → (m : ℕ) → IsOpen st m
            → not (lists n (request_of st.requests m)) || eqb (request_of st.requests m).number (row_of st.rows n).request ≡ true
        alone n t b m o = pick (lists n (request_of st.requests m)) refl
          where
            pick : (x : Bool) → lists n (request_of st.requests m) ≡ x → not x || eqb (request_of st.requests m).number (row_of st.rows n).request ≡ true
            pick true l = borne-by st s m o n l (copy_at st s n t b).no_end
            pick false l = refl

pub where-everything-is : WhereEverythingIs
unfolding WhereEverythingIs
where-everything-is fs log st x = places log st (session-sound fs log st x) (session-held fs log st x)
