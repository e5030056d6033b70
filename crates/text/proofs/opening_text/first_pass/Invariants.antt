-- `opening_text::first_pass` meets its contract: the forms read, then the lines left.
use Prim.Native.Nat.{◌≤◌, ◌+◌, ◌-◌}
use lib.ListN.{length}
use Rattle.text.proofs.PassLaws.{Passing}
use Rattle.text.proofs.opening_text.first_pass.Given as goal

abbrev pub invariant-loop-at : goal.invariant-loop-at
invariant-loop-at l = (l.at ≤ length l.text) × (l.n ≤ l.at + 1) × Passing l.text l.at l.n l.g

abbrev pub decreases-loop-at : goal.decreases-loop-at
decreases-loop-at l = length l.text - l.at
