-- The rows before the first seed have nothing to come from; from there on those passed are marked.
use Prim.Native.Nat.{◌≤◌, ◌-◌}
use Rattle.changes.specs.vocabulary.Bits.{marks_in}
use Rattle.changes.specs.vocabulary.Marks.{NoneMarked}
use Rattle.closing.specs.vocabulary.Marks.{MarksOn}
use Rattle.closing.proofs.marks.mark_rows.Given as goal

abbrev pub invariant-loop-i : goal.invariant-loop-i
invariant-loop-i l = (l.first ≤ l.i) × (l.i ≤ l.n) × NoneMarked (marks_in l.marks) 0 l.first × MarksOn l.t l.first l.i (marks_in l.initial.marks) (marks_in l.marks)

abbrev pub decreases-loop-i : goal.decreases-loop-i
decreases-loop-i l = l.n - l.i
