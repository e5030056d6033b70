-- The call of its words: the calls that have no caller, and a caller that fits is in range.
use mathlib.Core.List.{List}
use Prim.Native.Nat.{ℕ, ◌≤◌}
use mathlib.Core.Bool.{Bool, true, false, cond, ◌||◌}
use mathlib.Core.Path.{◌≡◌, refl, subst}
use mathlib.Core.Logic.{⊎_elim}
use native.Mathlib.Omega.{arith}
use borrow.Author.Tests.{ne_eqb, leb-true}
use lib.Dec.{leb, eqb}
use Rattle.rows.specs.Lists.{between}
use Rattle.rows.proofs.Bools.{or_cases}
use Rattle.rows.proofs.Places.{between-range}
use Rattle.calls.specs.declared.Item.{Item}
use Rattle.calls.specs.declared.Sixteen.{Sixteen}
use Rattle.calls.specs.declared.Call.{Call}
use Rattle.calls.specs.declared.Call.TheVariants.{Go, Hold, Register, Drop, Port, Close, Ask, Fetch, Revoke, Comes, Chain, ComesAll}
use Rattle.calls.specs.vocabulary.Effects.{IsProcess}
use Rattle.calls.specs.vocabulary.Performs.{CallerInRange}
use Rattle.test_exports.specs.vocabulary.Calls.{call_of_code}

either-in-range : (b : Bool) (x y : Call) → CallerInRange x → CallerInRange y → CallerInRange (cond b x y)
either-in-range true x y h k = h
either-in-range false x y h k = k

module _ (k p e : ℕ) (is : List Item) (served : Bool) (es qs : Sixteen) where
  abbrev uncalled : Call
  uncalled = cond (eqb k 10) (Comes p e) (cond (eqb k 11) (Chain p) (ComesAll es qs))

  uncalled-in-range : CallerInRange uncalled
  unfolding CallerInRange
  uncalled-in-range = either-in-range (eqb k 10) (Comes p e) _ tt (either-in-range (eqb k 11) (Chain p) (ComesAll es qs) tt tt)

  -- codes of calls without a caller
  no-caller : 10 ≤ k → uncalled ≡ call_of_code k p e is served es qs
  unfolding call_of_code
  no-caller h =
      rw (
        ne_eqb k 0 (λ z. omega arith),
        ne_eqb k 1 (λ z. omega arith),
        ne_eqb k 2 (λ z. omega arith),
        ne_eqb k 3 (λ z. omega arith),
        ne_eqb k 4 (λ z. omega arith),
        ne_eqb k 5 (λ z. omega arith),
        ne_eqb k 6 (λ z. omega arith),
        ne_eqb k 7 (λ z. omega arith),
        ne_eqb k 8 (λ z. omega arith),
        ne_eqb k 9 (λ z. omega arith),
      ) refl

  process-in-range : IsProcess p → CallerInRange (call_of_code k p e is served es qs)
  unfolding call_of_code CallerInRange
  process-in-range h =
      either-in-range (eqb k 0) (Go p e) _ h (either-in-range (eqb k 1) (Hold p e) _ h (either-in-range (eqb k 2) (Register p e) _ h
      (either-in-range (eqb k 3) (Drop p e) _ h (either-in-range (eqb k 4) (Port p e) _ h (either-in-range (eqb k 5) (Close p e) _ h
      (either-in-range (eqb k 6) (Ask p e is) _ h (either-in-range (eqb k 7) (Fetch p e) _ h (either-in-range (eqb k 8) (Call.Answer p e served) _ h
      (either-in-range (eqb k 9) (Revoke p e) _ h uncalled-in-range)))))))))

  pub fits-in-range : leb 10 k || between 1 64 p ≡ true → CallerInRange (call_of_code k p e is served es qs)
  unfolding CallerInRange
  fits-in-range h =
      ⊎_elim (λ q. subst CallerInRange (no-caller (leb-true 10 k q)) uncalled-in-range)
      (λ q. let (lo, hi) = between-range 1 64 p q in process-in-range (omega arith, hi))
      (or_cases (leb 10 k) (between 1 64 p) h)
