-- The slots passed have their new numbers, and the next one is at hand.
use Prim.Native.Nat.{◌≤◌, ◌+◌}
use mathlib.Core.Path.{◌≡◌}
use lib.ListN.{length}
use Rattle.changes.specs.vocabulary.Bits.{marks_in}
use Rattle.changes.specs.vocabulary.Marks.{RanksOn}
use Rattle.changes.proofs.renumbering.ranks_each.Given as goal

abbrev pub invariant-loop-i : goal.invariant-loop-i
invariant-loop-i l = (l.from ≤ l.i) × (l.i ≤ l.end) × (l.next ≤ l.i + 1) × (length l.to ≡ length l.initial.to) × RanksOn (marks_in l.marks) l.from l.i l.start l.initial.to l.to l.next
