-- The rows passed are marked, and the local is their word.
use Prim.Native.Nat.{◌≤◌, ◌/◌}
use Rattle.changes.specs.vocabulary.Bits.{marks_in}
use Rattle.changes.specs.vocabulary.Marks.{NoneMarked}
use Rattle.changes.proofs.BitLaws.{Holds}
use Rattle.closing.specs.vocabulary.Marks.{MarksOn}
use Rattle.closing.proofs.marks.mark_word.Given as goal

abbrev pub invariant-loop-i : goal.invariant-loop-i
invariant-loop-i l = (l.from ≤ l.i) × (l.i ≤ l.end) × Holds l.marks (l.from / 64) l.w × NoneMarked (marks_in l.marks) 0 l.first × MarksOn l.t l.from l.i (marks_in l.initial.marks) (marks_in l.marks)
