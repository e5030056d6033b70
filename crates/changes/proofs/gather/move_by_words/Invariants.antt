-- In each column the words of the slots passed that are left stand in front, and those of the slots not passed are as they were.
use Prim.Native.Nat.{◌≤◌, ◌-◌, ◌*◌}
use mathlib.Core.Path.{◌≡◌}
use lib.ListN.{length}
use Rattle.changes.specs.vocabulary.Bits.{marks_in}
use Rattle.changes.specs.vocabulary.Marks.{Moved, lefts}
use Rattle.changes.proofs.gather.move_by_words.Given as goal

abbrev pub invariant-loop-j : goal.invariant-loop-j
invariant-loop-j l = (l.i ≤ l.count) × (l.j ≡ lefts (marks_in l.marks) l.i) × (length l.part ≡ l.columns * l.size) × Moved (marks_in l.marks) l.size l.columns l.initial.part l.part l.i l.j

abbrev pub decreases-loop-j : goal.decreases-loop-j
decreases-loop-j l = l.count - l.i
