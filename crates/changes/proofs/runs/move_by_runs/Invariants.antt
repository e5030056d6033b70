-- In each column the words of the slots passed that are left stand in front, and those of the slots not passed are as they were.
-- The run that is found, and not moved yet, is the next of them.
use Prim.Native.Nat.{◌≤◌, ◌-◌, ◌+◌, ◌*◌}
use mathlib.Core.Path.{◌≡◌}
use lib.ListN.{length}
use Rattle.changes.specs.vocabulary.Bits.{marks_in}
use Rattle.changes.specs.vocabulary.Marks.{Moved, NoneMarked, lefts}
use Rattle.changes.proofs.runs.move_by_runs.Given as goal

abbrev pub invariant-loop-j : goal.invariant-loop-j
invariant-loop-j l = (l.a ≤ l.e) × (l.e ≤ l.count) × (l.j ≡ lefts (marks_in l.marks) l.a) × NoneMarked (marks_in l.marks) l.a l.e
    × (length l.part ≡ l.columns * l.size) × Moved (marks_in l.marks) l.size l.columns l.initial.part l.part l.a l.j

abbrev pub decreases-loop-j : goal.decreases-loop-j
decreases-loop-j l = (l.count - l.e) + (l.count - l.a)
