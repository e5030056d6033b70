-- Past the end there is no byte, and 0 is read, which is no `c`.
use Prim.Native.Nat.{ℕ, suc, ◌≤◌}
use mathlib.Core.Bool.{false}
use mathlib.Core.List.{List}
use mathlib.Core.Path.{◌≡◌, ap, sym}
use native.Mathlib.Numerals.{add-one}
use native.Mathlib.Omega.{arith}
use lib.Dec.{eqb}
use lib.ListN.{length, get_or, get_or-eq_default}
use Rattle.text.proofs.call_line.is_c_next.Goals as goal

past_end : (s : List ℕ) (i : ℕ) → length s ≤ i → false ≡ eqb (get_or s i 0) 99
past_end s i h = sym (ap (λ (x : ℕ). eqb x 99) (get_or-eq_default s 0 h))

pub returns-then-line-at : goal.returns-then-line-at
returns-then-line-at c = let a = c.args in past_end a.line.now (suc a.at) (omega (arith, c.if-line-at.true))

pub returns-then-line-i : goal.returns-then-line-i
returns-then-line-i c = let a = c.args in past_end a.line.now (suc a.at) (omega (arith, c.if-line-i.true))

pub returns : goal.returns
returns c = ap (λ (i : ℕ). eqb (get_or c.args.line.now i 0) 99) (add-one c.args.at)
