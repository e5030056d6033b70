-- `patterns::letters_at` meets its contract: what is left decides the whole run.
use Prim.Native.Nat.{◌≤◌, ◌-◌}
use mathlib.Core.Path.{◌≡◌}
use lib.ListN.{drop, length}
use Rattle.text.specs.Patterns.{run, is_letter, spelt, letters}
use Rattle.text.proofs.patterns.letters_at.Given as goal

abbrev pub invariant-loop-i : goal.invariant-loop-i
invariant-loop-i l = (l.v ≤ 1099511627776) × (run is_letter spelt l.v l.i (drop l.i l.s) ≡ letters l.s l.at)

abbrev pub decreases-loop-i : goal.decreases-loop-i
decreases-loop-i l = length l.s - l.i
