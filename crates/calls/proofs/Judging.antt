-- A call that a test refuses, and one that none does: answer, words and records after it.
use Prim.Native.Nat.{ℕ, ◌+◌}
use mathlib.Core.Bool.{Bool, true, false, cond}
use mathlib.Core.List.{List}
use mathlib.Core.Path.{◌≡◌, refl, ap, sym, subst, ◌∙◌}
use native.Mathlib.Omega.{arith}
use borrow.Author.Tests.{ne_eqb, eqb-true}
use lib.Dec.{eqb}
use Rattle.std.specs.Prelude.{Option, Result, Ok, Err}
use Rattle.std.specs.Prelude.{MatchResult}
use Rattle.std.specs.Prelude.{None}
use Rattle.rows.specs.declared.Process.{Process}
use Rattle.rows.specs.Tables.{State, no_row, row_of}
use Rattle.rows.specs.Codes.{in_clist}
use Rattle.rows.specs.Layout.{row_slot}
use Rattle.rows.specs.vocabulary.Represents.{Represents}
use Rattle.rows.specs.vocabulary.Slots.{found_slot}
use Rattle.rows.proofs.Slots.{found_nothing, row-absent}
use Rattle.calls.specs.declared.Refusal.{Refusal}
use Rattle.calls.specs.declared.Refusal.TheVariants.{Unsound, BadForm, OutOfRange, GivenTwice, NotListed, TooMany, NotHeld, WrongKind, NoRight, Busy, NoRequest, Lent, InUse, Away, TooDeep, RowsFull, RequestsFull, NumbersSpent, PrimesDiffer}
use Rattle.calls.specs.Answers.{refusal_number}
use Rattle.calls.specs.declared.Answer.{Answer}
use Rattle.calls.specs.declared.Answer.TheVariants.{Refused}
use Rattle.calls.specs.declared.Call.{Call}
use Rattle.calls.specs.Rules.{Out, Test, lowest, refused, judge}
use Rattle.calls.specs.Calls.{refusals, effect, perform}
use Rattle.calls.specs.vocabulary.Lookups.{slot_in}
use Rattle.calls.specs.vocabulary.Performs.{answer_in, Answers, Agrees}

-- ---- a step that may be refused
pub refusal-some : (r : Refusal) → refusal_number r ≡ 0 → ⊥
refusal-some Unsound e = omega arith
refusal-some BadForm e = omega arith
refusal-some OutOfRange e = omega arith
refusal-some GivenTwice e = omega arith
refusal-some NotListed e = omega arith
refusal-some TooMany e = omega arith
refusal-some NotHeld e = omega arith
refusal-some WrongKind e = omega arith
refusal-some NoRight e = omega arith
refusal-some Busy e = omega arith
refusal-some NoRequest e = omega arith
refusal-some Lent e = omega arith
refusal-some InUse e = omega arith
refusal-some Away e = omega arith
refusal-some TooDeep e = omega arith
refusal-some RowsFull e = omega arith
refusal-some RequestsFull e = omega arith
refusal-some NumbersSpent e = omega arith
refusal-some PrimesDiffer e = omega arith

pub by-number : {k : ℕ} {r : Answer} {after : List ℕ} {left : List Process} {o : Out} → r ≡ Refused k → Agrees after left (Refused k) o → Agrees after left r o
by-number e a = rw e a

-- what the function answers of such a step
pub unwrapped : (r : Result Answer Refusal) (a : Answer) → MatchResult r (λ x. a ≡ x) (λ e. a ≡ Refused (refusal_number e)) → a ≡ answer_in r
unwrapped (Ok x) a h = h
unwrapped (Err e) a h = h

-- ---- one test of several
pub test-holds : (b : Bool) (x y : ℕ) → b ≡ true → x ≡ cond b x y
test-holds b x y h = rw h refl

pub test-fails : (b : Bool) (x : ℕ) {y z : ℕ} → b ≡ false → z ≡ y → z ≡ cond b x y
test-fails b x {y} {z} h e = rw h e

-- ---- the look-up found nothing
pub not_in : (st : State) (place e : ℕ) → (place ≡ 0 → ⊥) → (r : Option ℕ) → r ≡ slot_in st place e → r ≡ None → eqb (row_of st.rows e).place place ≡ false
unfolding slot_in no_row
not_in st place e ne r f none = pick (eqb (row_of st.rows e).place place) refl f
  where
    pick : (b : Bool) → eqb (row_of st.rows e).place place ≡ b → r ≡ cond b (found_slot (row_slot st.rows e)) None → b ≡ false
    pick true q f =
        let gone = row-absent st.rows e (found_nothing (row_slot st.rows e) f none) in
        absurd (ne (sym (eqb-true (row_of st.rows e).place place q) ∙ (λ i. (gone i).place)))
    pick false q f = refl

-- ---- what follows the tests
judge-refused : (st : State) (ts : List Test) (o : Out) (k : ℕ) → k ≡ lowest ts → (k ≡ 0 → ⊥) → judge st ts o ≡ refused st k
unfolding judge
judge-refused st ts o k e ne = ap (λ (j : ℕ). cond (eqb j 0) o (refused st j)) (sym e) ∙ rw (ne_eqb k 0 ne) refl

judge-accepted : (st : State) (ts : List Test) (o : Out) → 0 ≡ lowest ts → judge st ts o ≡ o
unfolding judge
judge-accepted st ts o e = ap (λ (j : ℕ). cond (eqb j 0) o (refused st j)) (sym e)

module _ {t : List ℕ} (st : State) (c : Call) (rep : Represents t st) where
  refused_as : (k : ℕ) → k ≡ lowest (refusals st c) → (k ≡ 0 → ⊥) → refused st k ≡ perform st c
  unfolding perform
  refused_as k e ne = sym (judge-refused st (refusals st c) (effect st c) k e ne)

  pub refused-answers : (k : ℕ) → k ≡ lowest (refusals st c) → (k ≡ 0 → ⊥) → Answers t (Refused k) (perform st c)
  unfolding refused
  refused-answers k e ne = subst (λ (o : Out). Answers t (Refused k) o) (refused_as k e ne) (record { answer = refl; words = rep })

  pub refused-agrees : {ps : List Process} → st.processes ≡ ps → (k : ℕ) → k ≡ lowest (refusals st c) → (k ≡ 0 → ⊥)
      → Agrees t ps (Refused k) (perform st c)
  unfolding refused
  refused-agrees {ps} same k e ne =
      subst (λ (o : Out). Agrees t ps (Refused k) o) (refused_as k e ne) (record { answer = refl; words = rep; records = sym same })

module _ (st : State) (c : Call) (none : 0 ≡ lowest (refusals st c)) where
  effect-as : effect st c ≡ perform st c
  unfolding perform
  effect-as = sym (judge-accepted st (refusals st c) (effect st c) none)

  pub accepted-answers : {after : List ℕ} (r : Answer) → Answers after r (effect st c) → Answers after r (perform st c)
  accepted-answers {after} r a = subst (λ (o : Out). Answers after r o) effect-as a

  pub accepted-agrees : {after : List ℕ} {left : List Process} {r : Answer} → Agrees after left r (effect st c) → Agrees after left r (perform st c)
  accepted-agrees {after} {left} {r} a = subst (λ (o : Out). Agrees after left r o) effect-as a

-- ---- a call whose effect leaves the records
pub records-stay : {after : List ℕ} (st : State) (c : Call) {ps : List Process} → st.processes ≡ ps → (effect st c).after.processes ≡ st.processes → (r : Answer)
    → Answers after r (perform st c) → Agrees after ps r (perform st c)
unfolding perform judge refused
records-stay st c same keeps r a =
    record { answer = a.answer; words = a.words; records = sym same ∙ sym (pick (eqb (lowest (refusals st c)) 0)) }
  where
    pick : (b : Bool) → (cond b (effect st c) (refused st (lowest (refusals st c)))).after.processes ≡ st.processes
    pick true = keeps
    pick false = refl

-- the caller does not hold the row
pub not-in-clist : (st : State) (p e : ℕ) (r : Option ℕ) → r ≡ slot_in st (in_clist p) e → r ≡ None → eqb (row_of st.rows e).place (in_clist p) ≡ false
unfolding in_clist
not-in-clist st p e r f none = not_in st (100 + p) e (λ z. omega arith) r f none
