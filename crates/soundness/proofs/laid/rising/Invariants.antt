-- `laid::rising` meets its contract: the answer so far tells of the positions passed, and `last` is the word before.
use Rattle.std.proofs.Common.{◌≡◌, ◌<◌, get_or}
use Rattle.soundness.specs.vocabulary.Laid.{Decides, before}
use Rattle.soundness.proofs.Decides.{Between}
use Rattle.soundness.proofs.laid.rising.Given as goal

abbrev pub invariant-loop-n : goal.invariant-loop-n
invariant-loop-n l = (l.last ≡ before l.column l.n-index) × Decides l.rise (Between 0 l.n-index (λ j. before l.column j < get_or l.column j 0))
