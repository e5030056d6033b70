-- `laid::zero_from` meets its contract: the answer so far tells of the positions passed.
use Rattle.std.proofs.Common.{◌≡◌, get_or}
use lib.Dec.{eqb}
use Rattle.soundness.specs.vocabulary.Laid.{Decides}
use Rattle.soundness.proofs.Decides.{Between}
use Rattle.soundness.proofs.laid.zero_from.Given as goal

abbrev pub invariant-loop-i : goal.invariant-loop-i
invariant-loop-i l = Decides (eqb l.bits 0) (Between l.k l.i (λ j. get_or l.column j 0 ≡ 0))
