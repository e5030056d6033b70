-- `laid::older` meets its contract: the answer so far tells of the positions passed.
use Rattle.std.proofs.Common.{◌≤◌, get_or}
use Rattle.soundness.specs.vocabulary.Laid.{Decides}
use Rattle.soundness.proofs.Decides.{Between}
use Rattle.soundness.proofs.laid.older.Given as goal

abbrev pub invariant-loop-i : goal.invariant-loop-i
invariant-loop-i l = Decides l.old (Between 0 l.i (λ j. get_or l.column j 0 ≤ j))
