-- `patterns::digits_at` meets its contract: what is left decides the whole run.
use Prim.Native.Nat.{◌≤◌, ◌-◌}
use mathlib.Core.Path.{◌≡◌}
use lib.ListN.{drop, length}
use Rattle.text.specs.Patterns.{run, is_digit, grown, digits}
use Rattle.text.specs.vocabulary.Sizes.{GREATEST-READ}
use Rattle.text.proofs.patterns.digits_at.Given as goal

abbrev pub invariant-loop-i : goal.invariant-loop-i
invariant-loop-i l = (l.v ≤ GREATEST-READ) × (run is_digit grown l.v l.i (drop l.i l.s) ≡ digits l.s l.at)

abbrev pub decreases-loop-i : goal.decreases-loop-i
decreases-loop-i l = length l.s - l.i
