-- The rows passed are 0 in each of the columns.
use Prim.Native.Nat.{◌≤◌}
use mathlib.Core.Path.{◌≡◌}
use lib.ListN.{length}
use Rattle.changes.specs.vocabulary.Marks.{cleared, on_parts}
use Rattle.changes.proofs.clear.clear_rows.Given as goal

abbrev pub invariant-loop-i : goal.invariant-loop-i
invariant-loop-i l = (l.from ≤ l.i)
    × (l.i ≤ l.to)
    × (length l.part ≡ length l.initial.part)
    × (l.part ≡ on_parts (cleared l.from l.i) l.size l.columns l.initial.part)
