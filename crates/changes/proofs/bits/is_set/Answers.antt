-- The bit of the word is the mark of the slot.
use mathlib.Core.Path.{sym}
use lib.Dec.{lit<}
use Rattle.changes.specs.vocabulary.Bits.{bit}
use Rattle.changes.proofs.BitLaws.{mark-at}
use Rattle.changes.proofs.bits.is_set.Goals as goal

pub returns : goal.returns
unfolding bit
returns c = sym (mark-at 64 (lit< tt) c.args.marks.now c.args.i)
