-- The bit of pair k in the marks of the slot.
use mathlib.Core.Path.{refl}
use Rattle.changes.specs.vocabulary.Bits.{bit}
use Rattle.questions.proofs.pairs.is_marked.Goals as goal

pub returns : goal.returns
unfolding bit
returns c = refl
