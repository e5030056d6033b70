-- A number that is gone names nothing ever again; new rows and requests take just the numbers from the next one on.
use Prim.Native.Nat.{ℕ, suc, ◌+◌, ◌<◌, ◌≤◌}
use native.Mathlib.Omega.{arith}
use mathlib.Core.Bool.{Bool, true, false, ◌||◌}
use mathlib.Core.List.{List, [], ◌∷◌, ◌++◌, map}
use mathlib.Core.Path.{◌≡◌, refl, sym, ap, ◌∙◌, subst}
use mathlib.Core.Logic.{◌⊎◌, inl, inr, ⊎_elim}
use lib.Dec.{eqb}
use lib.ListN.{length}
use borrow.Author.Tests.{eqb-true, eqb-false}
use Rattle.rows.specs.declared.Row.{Row}
use Rattle.rows.specs.Lists.{any, member, some}
use Rattle.rows.specs.Tables.{State, no_row, row_of, request_of, numbers, sources}
use Rattle.rows.specs.Sound.{requests_rise}
use Rattle.rows.proofs.Bools.{some-pos, pos-some, member-here, member-there}
use Rattle.rows.proofs.Keyed.{rises-range}
use Rattle.rows.proofs.RowSources.{row-there, shape-sources, client-there}
use Rattle.tables.proofs.Sound.{Sound, sound-open}
use Rattle.tables.proofs.SoundFacts.{row_below, requests-top, next-some}
use Rattle.tables.proofs.Standing.{standing-shape}
use Rattle.closing.proofs.Facts.{copy-listed, lists-open}
use Rattle.calls.specs.declared.Answer.TheVariants.{Made}
use Rattle.calls.specs.declared.Call.{Call}
use Rattle.calls.specs.declared.Call.TheVariants.{Go, Hold, Register, Drop, Port, Close, Ask, Fetch, Revoke, Comes, Chain, ComesAll}
use Rattle.calls.specs.Rules.{Out, refused, with_new_rows, copy_of}
use Rattle.calls.specs.Loans.{items_of, copies, new_request}
use Rattle.calls.specs.Calls.{port_end, done, made, fetched_answer, chained_answer, effect}
use Rattle.kept.proofs.Allowed.{AskAllowed}
use Rattle.kept.proofs.AskFacts.{lent_rows, asked_rows, asked_state}
use Rattle.kept.proofs.AskStack.{bears-stacked}
use Rattle.history.proofs.Allowed.{Allowed, line-has}
use Rattle.security.specs.Sessions.{IsRow, IsOpen, Step, EveryStep}
use Rattle.security.specs.Changes.{takes, Touches}
use Rattle.security.specs.Numbers.{Named, is_row, is-request, is-source, is-borne, is-item, is-port, is-gone-through, Spent, Lasting, Gives, Answered}
use Rattle.security.proofs.Sessions.{session-sound, later-sound, later-has}
use Rattle.security.proofs.Rows.{sources-cases, item-row, port-client, through-at}
use Rattle.security.proofs.Effects.{Adds, holds, registers, makes, Effect, tells, moves-to, adds, asks, fetches, shuts-off, effect_of}
use Rattle.security.proofs.Touches.{touches}
use Rattle.security.proofs.Steps.{step-effect, step-sound, step-touches}

-- ---- what stands anywhere in sound tables is a row or an open request
pub member-any : (n : ℕ) (ns : List ℕ) → member n ns ≡ any (λ m. eqb n m) ns
unfolding member any
member-any n [] = refl
member-any n (m ∷ ns) = ap (λ b. eqb n m || b) (member-any n ns)

module _ (st : State) (s : Sound st) where
  -- a source of a row is a row
  pub source_row : (m n : ℕ) → IsRow st m → member n (sources (row_of st.rows m)) ≡ true → IsRow st n
  source_row m n t e =
      let r = row_of st.rows m in
      let (a, b) = shape-sources st.requests r st.rows (standing-shape st s.numbers s.rows m t) in
      ⊎_elim (λ x. is r.source a x.0 x.1) (λ x. is r.via b x.0 x.1) (sources-cases (λ k. eqb n k) r (sym (member-any n (sources r)) ∙ e))
    where
      is : (k : ℕ) → (k ≡ 0) ⊎ (IsRow st k) → some k ≡ true → eqb n k ≡ true → IsRow st n
      is k (inl z) h q = let l = some-pos k h in absurd (omega arith)
      is k (inr u) h q = ap (λ x. member x (numbers st.rows)) (eqb-true n k q) ∙ u

  pub named-stands : (n : ℕ) → Named st n → (IsRow st n) ⊎ (IsOpen st n)
  named-stands n (is_row t) = inl t
  named-stands n (is-request t) = inr t
  named-stands n (is-source m t e) = inl (source_row m n t e)
  named-stands n (is-borne m t h e) =
      let b : some (row_of st.rows m).request ≡ true = ap some e ∙ pos-some n h in
      inr (subst (IsOpen st) e (lists-open st m (row_of st.rows m).request (copy-listed st s m t b)))
  named-stands n (is-item q t l) = inl (item-row st s q t n l)
  named-stands n (is-port q t e) = inl (subst (IsRow st) e (client-there st.rows (request_of st.requests q).port (port-client st s q t)))
  named-stands n (is-gone-through p h e) = inl (subst (IsRow st) e (through-at st s p (ap some e ∙ pos-some n h)).there)

  pub request-below : (q : ℕ) → IsOpen st q → q < st.next
  unfolding requests_rise
  request-below q t =
      let (lo, hi) = rises-range (λ v. v.number) st.requests s.numbers.requests-rise q t in
      let top = requests-top st s.numbers in omega arith

-- ---- a number that is gone
spent-stays : (n : ℕ) (st st' : State) (c : Call) → Sound st → Step st c st' → Spent st n → Spent st' n
spent-stays n st st' c s k x =
    let t = step-touches st st' c s k in
    let up = t.next in
    let given = x.given in
    record {
      given = omega arith;
      no-row = λ u. let le = t.new-rows n u x.no-row in omega arith;
      no-request = λ u. let le = t.new-requests n u x.no-request in omega arith;
    }

pub lasting : Lasting
unfolding Lasting
lasting fs log st x st' l n sp named =
    let s = session-sound fs log st x in
    let sp' = later-has (λ z. Spent z n) (spent-stays n) st st' s l sp in
    ⊎_elim sp'.no-row sp'.no-request (named-stands st' (later-sound st st' s l) n named)

-- ---- the numbers that a call takes
module _ (st : State) (s : Sound st) where
  -- each is a row or a request afterwards
  adds-given : (c : Call) (rs : List Row) → Adds st c rs → (n : ℕ) → st.next ≤ n → n < st.next + length rs → member n (numbers (rs ++ st.rows)) ≡ true
  unfolding numbers copy_of port_end
  adds-given c rs (holds p e a) n lo hi = let z : n ≡ st.next = omega arith in rw z (member-here st.next _)
  adds-given c rs (registers p e a) n lo hi = let z : n ≡ st.next = omega arith in rw z (member-here st.next _)
  adds-given c rs (makes p e a) n lo hi = pick (eqb n st.next) refl
    where
      pick : (b : Bool) → eqb n st.next ≡ b → member n (suc st.next ∷ st.next ∷ map (λ r. r.number) st.rows) ≡ true
      pick true q = let z = eqb-true n st.next q in member-there n (suc st.next) _ (rw z (member-here st.next _))
      pick false q = let u = eqb-false n st.next q in let z : n ≡ suc st.next = omega arith in rw z (member-here (suc st.next) _)

  asks-given : (p c : ℕ) (is : _) → AskAllowed st p c (items_of is) → (n : ℕ) → st.next ≤ n → n < suc st.next + length (copies st (items_of is))
      → (IsRow (asked_state st p c (items_of is)) n) ⊎ (IsOpen (asked_state st p c (items_of is)) n)
  asks-given p c is a n lo hi = pick (eqb n st.next) refl
    where
      borne : n ≡ st.next → IsOpen (asked_state st p c (items_of is)) n
      borne z = unfold new_request in rw z (member-here st.next _)

      pick : (b : Bool) → eqb n st.next ≡ b → (IsRow (asked_state st p c (items_of is)) n) ⊎ (IsOpen (asked_state st p c (items_of is)) n)
      pick true q = inr (borne (eqb-true n st.next q))
      pick false q =
          let u = eqb-false n st.next q in
          let b = bears-stacked st c st.next (copies st (items_of is)) (suc st.next) (lent_rows st (items_of is)) n (omega arith) hi in
          inl (row-there (λ r. some r.request) (unfold no_row some in refl) (asked_rows st c (items_of is)) n (ap some b ∙ pos-some st.next (next-some st s.numbers)))

  given : (c : Call) (st' : State) → Effect st c st' → (n : ℕ) → st.next ≤ n → n < st'.next → (IsRow st' n) ⊎ (IsOpen st' n)
  unfolding with_new_rows
  given c st' (tells c' k) n lo hi = absurd (omega arith)
  given c st' (moves-to p e a) n lo hi = let k = (touches st s c st' (moves-to p e a)).next in absurd (unfold takes in omega arith)
  given c st' (adds c' rs k a z) n lo hi = inl (adds-given c rs a n lo (omega arith))
  given c st' (asks p d is a) n lo hi = asks-given p d is a n lo hi
  given c st' (fetches p e a) n lo hi = let k = (touches st s c st' (fetches p e a)).next in absurd (unfold takes in omega arith)
  given c st' (shuts-off c' g f x k) n lo hi = let z = (touches st s c st' (shuts-off c g f x k)).next in let y = k.unnumbered in absurd (omega arith)

pub gives : EveryStep Gives
gives st st' c h k = record { never-falls = let z = t.next in omega arith; exactly = λ n. (there n, back n) }
  where
    s : Sound st
    s = sound-open st h

    s' : Sound st'
    s' = step-sound st st' c s k

    t : Touches st c st'
    t = step-touches st st' c s k

    there : (n : ℕ) → (st.next ≤ n) × (n < st'.next) → ((IsRow st' n) ⊎ (IsOpen st' n)) × ((IsRow st n) ⊎ (IsOpen st n) → ⊥)
    there n (lo, hi) = (
      given st s c st' (step-effect st st' c s k) n lo hi,
      λ x. ⊎_elim (λ u. let lt = (row_below st s.numbers n u).1 in omega arith) (λ u. let lt = request-below st s n u in omega arith) x,
    )

    back : (n : ℕ) → ((IsRow st' n) ⊎ (IsOpen st' n)) × ((IsRow st n) ⊎ (IsOpen st n) → ⊥) → (st.next ≤ n) × (n < st'.next)
    back n (inl u, new) = (t.new-rows n u (λ v. new (inl v)), (row_below st' s'.numbers n u).1)
    back n (inr u, new) = (t.new-requests n u (λ v. new (inr v)), request-below st' s' n u)

-- ---- the number answered
abbrev Answers : State → Out → Type 0
Answers st o = (n : ℕ) → o.answer ≡ Made n → (n ≡ st.next) × (n < o.after.next)

module _ (st : State) (s : Sound st) where
  done-made : (st' : State) → Answers st (done st')
  unfolding done
  done-made st' n e = absurd (let z : ◌≡◌ {A = ℕ} 0 1 = cc in omega arith)

  -- the old next number, where the call takes one
  next-made : (c : Call) → Allowed st c → 0 < takes st c → Answers st (made st.next (effect st c).after)
  unfolding made
  next-made c a h n e =
      let z : n ≡ st.next = cc in
      let up = (touches st s c (effect st c).after (effect_of st s c a)).next in
      (z, omega arith)

  effect-answers : (c : Call) → Allowed st c → Answers st (effect st c)
  unfolding effect takes fetched_answer chained_answer made
  effect-answers (Go p e) a n k = done-made _ n k
  effect-answers (Hold p e) a n k = next-made (Hold p e) a (omega arith) n k
  effect-answers (Register p e) a n k = next-made (Register p e) a (omega arith) n k
  effect-answers (Drop p e) a n k = done-made _ n k
  effect-answers (Port p e) a n k = next-made (Port p e) a (omega arith) n k
  effect-answers (Close p c) a n k = done-made _ n k
  effect-answers (Ask p c is) a n k = next-made (Ask p c is) a (omega arith) n k
  effect-answers (Fetch p e) a n k = absurd (let z : ◌≡◌ {A = ℕ} 0 1 = cc in omega arith)
  effect-answers (Call.Answer p e served) a n k = done-made _ n k
  effect-answers (Revoke p q) a n k = done-made _ n k
  effect-answers (Comes e q) a n k = absurd (let z : ◌≡◌ {A = ℕ} 0 1 = cc in omega arith)
  effect-answers (Chain e) a n k = absurd (let z : ◌≡◌ {A = ℕ} 0 1 = cc in omega arith)
  effect-answers (ComesAll es qs) a n k = absurd (let z : ◌≡◌ {A = ℕ} 0 1 = cc in omega arith)

pub answered : Answered
unfolding Answered refused
answered st line n h =
    line-has (Answers st) st (sound-open st h) (λ k r n e. absurd (let z : ◌≡◌ {A = ℕ} 0 1 = cc in omega arith)) line (effect-answers st (sound-open st h)) n
