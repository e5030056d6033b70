-- The words passed have no such slot.
use Rattle.std.proofs.Common.{◌*◌}
use Rattle.changes.specs.vocabulary.Bits.{marks_in}
use Rattle.changes.specs.vocabulary.Marks.{Passes}
use Rattle.changes.proofs.runs.next_in_words.Given as goal

abbrev pub invariant-loop-k : goal.invariant-loop-k
invariant-loop-k l = Passes (marks_in l.marks) l.marked (l.word * 64) (l.k * 64)
