-- Revocation is never blocked; the oldest loan of an end brings it home; room comes back.
use Prim.Native.Nat.{ℕ, ◌<◌}
use native.Mathlib.Omega.{arith}
use mathlib.Core.Bool.{Bool, true, false, not, cond, ◌&&◌, ◌||◌}
use mathlib.Core.List.{List, [], ◌∷◌}
use mathlib.Core.Path.{◌≡◌, refl, sym, ap, ◌∙◌, subst}
use mathlib.Core.Logic.{⊎_elim}
use lib.Dec.{ltb, eqb}
use borrow.Author.Tests.{eqb-true, eqb-false, eq-eqb, ne_eqb, ltb-true, lt-ltb}
use Rattle.rows.specs.declared.Row.{Row}
use Rattle.rows.specs.declared.Request.{Request}
use Rattle.rows.specs.Lists.{any, each, member, some}
use Rattle.rows.specs.Codes.{is_client, is_end, in_clist, is_clist}
use Rattle.rows.specs.Tables.{State, no_row, no_request, row_of, request_of, is_listed, numbers, sources, marked, bears, comes_from, lists, on_loan}
use Rattle.rows.specs.Sound.{rows_rise, requests_rise, requesters_listed, copies_listed, copy_listed, may_be_listed}
use Rattle.rows.proofs.Bools.{clash, false_of, and_l, and_r, and_i, and-false, or_cases, or_l, or_r, some-pos, pos-some, eqb-self}
use Rattle.rows.proofs.Keyed.{all_first, older_of}
use Rattle.tables.proofs.Sound.{Sound, sound-open}
use Rattle.tables.proofs.SoundFacts.{row_number, listed-range}
use Rattle.tables.proofs.Standing.{source-lower, via-lower}
use Rattle.tables.proofs.Marking.{marked-reaches, marked-least}
use Rattle.closing.specs.Closing.{closes, listed_in, leaves, trimmed, remaining, settled, closing, close_request}
use Rattle.rows.proofs.Lists.{none-all}
use Rattle.closing.proofs.TrimmedLists.{each-of-first}
use Rattle.closing.proofs.Facts.{request-number, listed-right, end-at}
use Rattle.closing.proofs.Lookups.{trimmed-lists}
use Rattle.calls.specs.declared.Call.{Call}
use Rattle.calls.specs.declared.Call.TheVariants.{Close, Revoke}
use Rattle.calls.specs.Answers.{refusal_of}
use Rattle.calls.specs.Rules.{lowest, judge, not_held}
use Rattle.calls.specs.Calls.{refusals_close, refusals_revoke, refusals, done, effect, perform, caller_of}
use Rattle.text.specs.declared.Reading.TheVariants.{Asks}
use Rattle.text.specs.Entry.{caller_unlisted, answered, call_on}
use Rattle.text.specs.Opening.{Form}
use Rattle.kept.proofs.Closing.{close-request-kept}
use Rattle.security.specs.Sessions.{IsRow, IsOpen, Has, Log, logged, Session}
use Rattle.security.specs.Changes.{closed_by, discards, falls, goes}
use Rattle.security.specs.Places.{home_of, listers, whereabouts, WhereEverythingIs}
use Rattle.security.specs.Revocation.{Accepted, NeverBlocked, Oldest, ComesHome, OldestLoanBringsHome}
use Rattle.security.proofs.Sessions.{session-sound}
use Rattle.security.proofs.Rows.{filter_none, sources-cases, request-low, holder-listed}
use Rattle.security.proofs.Effects.{Effect, revoke-effect}
use Rattle.security.proofs.Touches.{any-older-is, touches}
use Rattle.security.proofs.Moves.{any_found}
use Rattle.security.proofs.Places.{kind-kept, old-line}
use Rattle.security.proofs.PlacesKept.{session-held, where-everything-is}

-- ---- a call that no test refuses
module _ (st : State) (s : Sound st) where
  asker-listed : (q : ℕ) → IsOpen st q → is_listed st.processes (request_of st.requests q).asker ≡ true
  unfolding requesters_listed request_of
  asker-listed q t = all_first (λ v. v.number) no_request (λ v. is_listed st.processes v.asker) st.requests q s.loans.requesters-listed t

  -- a revoke by the asker closes the request
  pub revoke-answered : (q : ℕ) → IsOpen st q → answered st (Asks (Revoke (request_of st.requests q).asker q)) ≡ done (close_request q st)
  unfolding answered judge lowest caller_unlisted caller_of perform refusals refusals_revoke effect
  revoke-answered q t =
      let v = request_of st.requests q in
      let l = asker-listed q t in
      let number : v.number ≡ q = request-number st q t in
      let low = request-low st s q t in
      let (lo, hi) = listed-range st s.placed v.asker l in
      rw (l, and-false (some v.asker), ne_eqb v.number 0 (λ z. omega arith), eqb-self v.asker) refl

pub never-blocked : NeverBlocked
unfolding NeverBlocked call_on done refusal_of
never-blocked st h q t line e = ap (λ r. refusal_of (answered st r).answer) e ∙ ap (λ o. refusal_of o.answer) (revoke-answered st (sound-open st h) q t)

-- ---- what comes from a request is newer than it
module _ (st : State) (s : Sound st) where
  newer-than : (q n : ℕ) → some q ≡ true → comes_from st.rows q n ≡ true → q < n
  unfolding comes_from rows_rise bears copies_listed copy_listed row_of numbers
  newer-than q n h e =
      ltb-true q n (marked-least (bears q) (λ m. ltb q m) st.rows s.numbers.rows-rise closed n (marked-reaches (bears q) st.rows s.numbers.rows-rise n ∙ e))
    where
      R : ℕ → Row
      R m = row_of st.rows m

      up : (m k : ℕ) → k < m → ltb q k ≡ true → ltb q m ≡ true
      up m k l u = let v = ltb-true q k u in lt-ltb q m (omega arith)

      bearer : (m : ℕ) → IsRow st m → bears q (R m) ≡ true → ltb q m ≡ true
      bearer m t b =
          let is : (R m).request ≡ q = eqb-true (R m).request q b in
          let bears-some : some (R m).request ≡ true = ap some is ∙ h in
          let c : copy_listed st.requests (R m) ≡ true = all_first (λ r. r.number) no_row (copy_listed st.requests) st.rows m s.loans.copies-listed t in
          ⊎_elim (λ z. let y = eqb-true (R m).request 0 z in let l = some-pos (R m).request bears-some in absurd (omega arith))
          (λ y. ap (λ k. ltb k m) (sym is) ∙ ap (ltb (R m).request) (sym (row_number st.rows m t)) ∙ and_l (ltb (R m).request (R m).number) _ y)
          (or_cases (eqb (R m).request 0) _ c)

      closed : (m : ℕ) → IsRow st m → bears q (R m) || any (λ k. ltb q k) (sources (R m)) ≡ true → ltb q m ≡ true
      closed m t u =
          ⊎_elim (bearer m t)
          (λ y. ⊎_elim (λ z. up m (R m).source (source-lower st s.numbers s.rows m t) z.1) (λ z. up m (R m).via (via-lower st s.numbers s.rows m t) z.1) (sources-cases (λ k. ltb q k) (R m) y))
          (or_cases (bears q (R m)) _ u)

  -- an end that a request lists is older than it
  end-older : (n q : ℕ) → IsRow st n → is_end (row_of st.rows n).kind ≡ true → IsOpen st q → lists n (request_of st.requests q) ≡ true → n < q
  unfolding may_be_listed
  end-older n q t k o l =
      let r = row_of st.rows n in
      let v = request_of st.requests q in
      let a : r.number ≡ n = row_number st.rows n t in
      let b : v.number ≡ q = request-number st q o in
      ⊎_elim (λ y. let lt = ltb-true r.number v.number (and_r (is_end r.kind) _ y) in omega arith)
      (λ y. let z = (end-at st s n t k).no-request in let m = some-pos r.request (and_l (some r.request) _ y) in absurd (omega arith))
      (or_cases (is_end r.kind && ltb r.number v.number) _ (listed-right st s q o n l))

-- ---- what no request lists any more
module _ (f : Request → Bool) (g : List ℕ) (n : ℕ) where
  -- each request that lists it closes, or an older one that closes lists it
  none_left : (vs : List Request) → each (λ v older. not (lists n v) || (f v || listed_in f older n)) vs ≡ true → any (lists n) (remaining f g vs) ≡ false
  unfolding each remaining any leaves
  none_left [] e = refl
  none_left (v ∷ vs) e = pick (none_left vs (and_r (not (lists n v) || (f v || listed_in f vs n)) _ e)) (f v) refl (and_l (not (lists n v) || (f v || listed_in f vs n)) _ e)
    where
      pick : any (lists n) (remaining f g vs) ≡ false → (b : Bool) → f v ≡ b → not (lists n v) || (b || listed_in f vs n) ≡ true → any (lists n) (cond b (remaining f g vs) (trimmed f g vs v ∷ remaining f g vs)) ≡ false
      pick ih true q h = ih
      pick ih false q h = rw (trimmed-lists f g vs v n) (rw ih (gone (lists n v) (listed_in f vs n) (member n g) h))
        where
          gone : (a b c : Bool) → not a || b ≡ true → (a && not (c || b)) || false ≡ false
          gone true true true h = refl
          gone true true false h = refl
          gone true false c h = clash h refl
          gone false b c h = refl

-- ==== the oldest loan of an end is revoked
module _ (fs : List Form) (log : Log) (st : State) (x : Session fs log st) (n q : ℕ) (t : IsRow st n) (k : is_end (row_of st.rows n).kind ≡ true) (o : Oldest st n q) where
  s : Sound st
  s = session-sound fs log st x

  abbrev p : ℕ
  p = (request_of st.requests q).asker

  abbrev c : Call
  c = Revoke p q

  abbrev st' : State
  st' = close_request q st

  some-q : some q ≡ true
  some-q = pos-some q (request-low st s q o.is_open)

  abbrev g : List ℕ
  g = marked (bears q) st.rows

  abbrev f : Request → Bool
  f = closes (q ∷ []) g

  revoked : Effect st c st'
  revoked = revoke-effect st s p q some-q

  s' : Sound st'
  s' = close-request-kept st s q some-q

  -- it stays: what comes from the request is newer
  stays : goes st c n ≡ false
  unfolding goes discards falls closed_by
  stays =
      false_of _ (λ e. let lt = newer-than st s q n some-q (and_r (some q) _ e) in
      let older = end-older st s n q t k o.is_open o.listed in omega arith)

  there : IsRow st' n
  there = (touches st s c st' revoked).rows n t ∙ ap not stays

  -- no request lists it any more
  off : on_loan st'.requests n ≡ false
  unfolding on_loan close_request closing settled requests_rise request_of
  off =
      none_left f g n st.requests
      (each-of-first (λ v. v.number) no_request (λ v older. not (lists n v) || (f v || listed_in f older n)) st.requests s.numbers.requests-rise at-request)
    where
      closes-q : f (request_of st.requests q) ≡ true
      closes-q = unfold closes member in (rw (request-number st q o.is_open, eqb-self q) refl)

      at-request : (w : ℕ) → IsOpen st w → not (lists n (request_of st.requests w)) || (f (request_of st.requests w) || listed_in f (older_of (λ v. v.number) st.requests w) n) ≡ true
      at-request w u = pick (lists n (request_of st.requests w)) refl (eqb w q) refl
        where
          older : (q < w) → listed_in f (older_of (λ v. v.number) st.requests w) n ≡ true
          older lt =
              unfold listed_in in
              (any-older-is (λ v. v.number) (λ v. f v && lists n v) st.requests s.numbers.requests-rise w u
              ∙ any_found (λ v. v.number) no_request (λ v. ltb v.number w && (f v && lists n v)) st.requests q o.is_open
              (and_i (ltb (request_of st.requests q).number w) _ (ap (λ m. ltb m w) (request-number st q o.is_open) ∙ lt-ltb q w lt) (and_i (f (request_of st.requests q)) _ closes-q o.listed)))

          pick : (a : Bool) → lists n (request_of st.requests w) ≡ a → (b : Bool) → eqb w q ≡ b
              → not a || (f (request_of st.requests w) || listed_in f (older_of (λ v. v.number) st.requests w) n) ≡ true
          pick true l true e = rw (eqb-true w q e) (or_l (f (request_of st.requests q)) _ closes-q)
          pick true l false e =
              let ne = eqb-false w q e in
              let le = o.oldest w u l in
              or_r (f (request_of st.requests w)) _ (older (omega arith))
          pick false l b e = refl

  home_at : (row_of st'.rows n).place ≡ home_of st (row_of st.rows n)
  unfolding logged
  home_at =
      let h = session-held fs log st x in
      let l = old-line st st' c s revoked log (home_of st (row_of st.rows n)) n t there (h.ends n t k).line in
      l.at ∙ ap (whereabouts log (home_of st (row_of st.rows n))) (unlisted st'.requests off) ∙ (unfold whereabouts in refl)
    where
      unlisted : (vs : List Request) → on_loan vs n ≡ false → listers n vs ≡ []
      unlisted vs e = unfold listers on_loan in filter_none (lists n) vs (none-all (lists n) vs e)

  clist : is_clist (row_of st'.rows n).place ≡ true
  unfolding WhereEverythingIs
  clist = ap is_clist home_at ∙ (where-everything-is fs log st x).homes n t k

  -- the client end may be closed by whoever has it now
  closable : (b : ℕ) → is_client (row_of st.rows n).kind ≡ true → Has st' b n → Accepted st' (Close b n)
  unfolding answered judge lowest caller_unlisted caller_of perform refusals refusals_close effect done refusal_of not_held
  closable b client has =
      let kind : is_client (row_of st'.rows n).kind ≡ true = ap is_client (kind-kept st st' c s revoked n t there) ∙ client in
      rw (holder-listed st' s' n there b has clist, and-false (some b), eq-eqb (row_of st'.rows n).place (in_clist b) has, kind, off) refl

  comes_home : ComesHome st (answered st (Asks c)).after n
  unfolding done
  comes_home =
      subst (λ z. ComesHome st z n) (sym (ap (λ r. r.after) (revoke-answered st s q o.is_open)))
      (record { stands = there; home = home_at; off-loan = off; may-close = closable })

pub oldest-loan-brings-home : OldestLoanBringsHome
unfolding OldestLoanBringsHome
oldest-loan-brings-home fs log st x n q t k o = comes_home fs log st x n q t k o
