-- A request is marked fetched just if the log has a fetch of it; the log has requests of numbers given alone.
use Prim.Native.Nat.{ℕ, ◌<◌}
use native.Mathlib.Omega.{arith}
use mathlib.Core.Bool.{Bool, true, false, cond}
use mathlib.Core.List.{List, [], ◌∷◌, map}
use mathlib.Core.Path.{◌≡◌, refl, sym, ap, ◌∙◌}
use mathlib.Core.Logic.{⊎_elim}
use lib.Dec.{eqb}
use borrow.Author.Tests.{eqb-true}
use Rattle.rows.specs.declared.Request.{Request}
use Rattle.rows.specs.Lists.{first_with, member, some}
use Rattle.rows.specs.Codes.{fetched_mark}
use Rattle.rows.specs.Tables.{State, request_of}
use Rattle.rows.specs.Setters.{with_fetched}
use Rattle.rows.specs.Sound.{is_fetched}
use Rattle.rows.proofs.Bools.{clash, false_of, not_t, pos-some, member-cases, true-or-false, eqb-sym}
use Rattle.tables.proofs.Picked.{first-here}
use Rattle.tables.proofs.Sound.{Sound}
use Rattle.tables.proofs.SoundFacts.{listed-has-record}
use Rattle.closing.specs.Closing.{settled}
use Rattle.closing.proofs.Facts.{request-number}
use Rattle.calls.specs.declared.Call.{Call}
use Rattle.calls.specs.declared.Call.TheVariants.{Fetch}
use Rattle.calls.specs.Rules.{asked_of, with_new_rows, with_record}
use Rattle.calls.specs.Loans.{items_of, new_request, handed_over}
use Rattle.calls.specs.Calls.{effect}
use Rattle.kept.proofs.Allowed.{FetchAllowed}
use Rattle.kept.proofs.AskFacts.{asked, asked_state}
use Rattle.kept.proofs.Fetch.{open-there}
use Rattle.text.specs.Opening.{Form}
use Rattle.text.specs.Entry.{state_opened}
use Rattle.text.proofs.Opening.{opened-requests}
use Rattle.history.proofs.KeptCalls.{effect-kept}
use Rattle.security.specs.Sessions.{IsOpen, Log, logged, nobody, fetcher_of, Session}
use Rattle.security.specs.Changes.{shuts, fetched_by, request_after, Touches}
use Rattle.security.proofs.Sessions.{session-has}
use Rattle.security.proofs.Effects.{Effect, tells, moves-to, adds, asks, fetches, shuts-off, effect_of}
use Rattle.security.proofs.Touches.{question-still, adds-still, touches}
use Rattle.security.proofs.Listers.{fetched-by, fetched-else}
use Rattle.security.proofs.Numbers.{request-below}

pub record Logged (log : Log) (st : State) : Type 0 where
  pub marks : (q : ℕ) → IsOpen st q → is_fetched (request_of st.requests q) ≡ some (fetcher_of log q)
  pub below : (q : ℕ) → some (fetcher_of log q) ≡ true → q < st.next

module _ (st st' : State) (c : Call) (s : Sound st) (s' : Sound st') (x : Effect st c st') (log : Log) (h : Logged log st) where
  k : Touches st c st'
  k = touches st s c st' x

  -- the mark of a request that was open
  mark-after : (q : ℕ) → IsOpen st q → IsOpen st' q → is_fetched (request_of st'.requests q) ≡ is_fetched (fetched_by st c (request_of st.requests q))
  unfolding request_after is_fetched
  mark-after q t t' = ap is_fetched (k.requests-kept q t (not_t (shuts st c (request_of st.requests q)) (sym (k.requests q t) ∙ t')))

  -- a request that was not open is not fetched
  new-unlogged : (q : ℕ) → IsOpen st' q → (IsOpen st q → ⊥) → some (fetcher_of log q) ≡ false
  new-unlogged q t u = let le = k.new-requests q t u in false_of _ (λ z. let lt = h.below q z in omega arith)

  -- a call that fetches nothing
  module _ (unfetched : (v : Request) → fetched_by st c v ≡ v) (unlogged : logged st c log ≡ log)
      (fresh : (q : ℕ) → IsOpen st' q → (IsOpen st q → ⊥) → is_fetched (request_of st'.requests q) ≡ false) where
    unfetching : Logged (logged st c log) st'
    unfetching =
        record {
          marks = λ q t.
              ⊎_elim (λ o. mark-after q o t ∙ ap is_fetched (unfetched (request_of st.requests q)) ∙ h.marks q o)
              (λ u. fresh q t (λ o. clash o u) ∙ sym (new-unlogged q t (λ o. clash o u))) (true-or-false (member q (map (λ v. v.number) st.requests)))
              ∙ ap (λ l. some (fetcher_of l q)) (sym unlogged);
          below = λ q z. let lt = h.below q (ap (λ l. some (fetcher_of l q)) (sym unlogged) ∙ z) in let up = k.next in omega arith;
        }

-- ---- by the kind of effect
ask-fresh : (st : State) (p c : ℕ) (is : _) (q : ℕ) → IsOpen (asked_state st p c is) q → (IsOpen st q → ⊥) → is_fetched (request_of (asked_state st p c is).requests q) ≡ false
unfolding request_of new_request is_fetched
ask-fresh st p c is q t u =
    ⊎_elim (λ z. ap (λ v. is_fetched v) (ap (request_of (asked_state st p c is).requests) z ∙ first-here (λ v. v.number) _ (asked st p c is) st.requests)) (λ o. absurd (u o))
    (member-cases q st.next (map (λ v. v.number) st.requests) t)

module _ (st st' : State) (s : Sound st) (s' : Sound st') (log : Log) (h : Logged log st) where
  -- no request is new
  none-new : (c : Call) → Effect st c st' → st'.next ≡ st.next → (q : ℕ) → IsOpen st' q → (IsOpen st q → ⊥) → is_fetched (request_of st'.requests q) ≡ false
  none-new c x e q t u =
      let le = (touches st s c st' x).new-requests q t u in
      let lt = request-below st' s' q t in absurd (omega arith)

module _ (st st' : State) (p e : ℕ) (s : Sound st) (s' : Sound st') (x : Effect st (Fetch p e) st') (same : st'.next ≡ st.next) (a : FetchAllowed st p e) (log : Log) (h : Logged log st) where
  v : ℕ
  v = (asked_of st e).number

  asked-is-open : IsOpen st v
  unfolding asked_of v
  asked-is-open = open-there st.requests _ a.serves.asked

  marked : (q : ℕ) → IsOpen st q → (b : Bool) → eqb v q ≡ b → eqb (request_of st.requests q).number v ≡ b
      → is_fetched (cond b (with_fetched fetched_mark (request_of st.requests q)) (request_of st.requests q)) ≡ some (fetcher_of (record { request = v; process = p } ∷ log) q)
  unfolding is_fetched
  marked q o true z y =
      sym (ap (λ k. some (fetcher_of (record { request = v; process = p } ∷ log) k)) (sym (eqb-true v q z)) ∙ ap some (fetched-by log v p) ∙ pos-some p (listed-has-record st.processes p a.serves.caller).0)
  marked q o false z y = h.marks q o ∙ ap some (sym (fetched-else log v p q z))

  number_same : (q : ℕ) → IsOpen st q → eqb (request_of st.requests q).number v ≡ eqb v q
  number_same q o = ap (λ n. eqb n v) (request-number st q o) ∙ eqb-sym q v

  fetching : Logged (logged st (Fetch p e) log) st'
  unfolding logged fetched_by v
  fetching =
      record {
        marks = λ q t.
            ⊎_elim
            (λ o. mark-after st st' (Fetch p e) s s' x log h q o t ∙ ap (λ b. is_fetched (cond b (with_fetched fetched_mark (request_of st.requests q)) (request_of st.requests q))) (number_same q o) ∙ marked q o (eqb v q) refl (number_same q o))
            (λ u. let le = (touches st s (Fetch p e) st' x).new-requests q t (λ o. clash o u) in let lt = request-below st' s' q t in absurd (omega arith))
            (true-or-false (member q (map (λ w. w.number) st.requests)));
        below = λ q z. under q z (eqb v q) refl;
      }
    where
      under : (q : ℕ) → some (fetcher_of (record { request = v; process = p } ∷ log) q) ≡ true → (b : Bool) → eqb v q ≡ b → q < st'.next
      under q z true y = let lt = request-below st s v asked-is-open in let is = eqb-true v q y in omega arith
      under q z false y = let lt = h.below q (ap some (sym (fetched-else log v p q y)) ∙ z) in omega arith

logged-kept : (st st' : State) (c : Call) → Sound st → Sound st' → Effect st c st' → (log : Log) → Logged log st → Logged (logged st c log) st'
unfolding fetched_by logged with_record with_new_rows handed_over settled
logged-kept st st' c s s' (tells c' x) log h = let k = question-still st c x in unfetching st st' c s s' (tells c x) log h k.unfetched (k.unlogged log) (λ q t u. absurd (u t))
logged-kept st st' c s s' (moves-to p e a) log h = unfetching st st' c s s' (moves-to p e a) log h (λ v. refl) refl (λ q t u. absurd (u t))
logged-kept st st' c s s' (adds c' rs n a z) log h = unfetching st st' c s s' (adds c rs n a z) log h (adds-still st c rs a).unfetched ((adds-still st c rs a).unlogged log) (λ q t u. absurd (u t))
logged-kept st st' c s s' (asks p d is a) log h = unfetching st st' c s s' (asks p d is a) log h (λ v. refl) refl (ask-fresh st p d (items_of is))
logged-kept st st' c s s' (fetches p e a) log h = fetching st st' p e s s' (fetches p e a) refl a log h
logged-kept st st' c s s' (shuts-off c' g f y m) log h =
    unfetching st st' c s s' (shuts-off c g f y m) log h m.unfetched (m.unlogged log) (none-new st st' s s' log h c (shuts-off c g f y m) refl)

-- ==== of every session
opened-logged : (fs : List Form) → Logged [] (state_opened fs)
unfolding state_opened fetcher_of first_with nobody some member
opened-logged fs = record { marks = λ q t. clash t (ap (λ vs. member q (map (λ v. v.number) vs)) (opened-requests fs)); below = λ q z. clash z refl }

pub session-logged : (fs : List Form) (log : Log) (st : State) → Session fs log st → Logged log st
session-logged fs =
    session-has Logged fs (λ text rest e. opened-logged fs)
    (λ log st c s a h. logged-kept st (effect st c).after c s (effect-kept st s c a) (effect_of st s c a) log h)
