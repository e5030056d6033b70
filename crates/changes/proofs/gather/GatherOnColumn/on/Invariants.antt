-- The words of the slots passed are moved down, the others are as they were.
use Rattle.std.proofs.Common.{◌≡◌}
use Rattle.changes.specs.vocabulary.Marks.{gathered}
use Rattle.changes.proofs.gather.GatherOnColumn.on.Given as goal

abbrev pub invariant-loop-k : goal.invariant-loop-k
invariant-loop-k l = l.column ≡ gathered l.self.to l.self.slots.now l.k l.initial.column
