-- The word of the slot has its bit too.
use lib.Dec.{lit<}
use Rattle.changes.proofs.BitLaws.{marks-set}
use Rattle.changes.proofs.bits.set.Goals as goal

pub returns : goal.returns
returns c = marks-set 64 (lit< tt) c.args.marks.now c.args.i
