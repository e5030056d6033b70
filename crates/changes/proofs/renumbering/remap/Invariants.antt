-- The words passed are looked up, the others are as they were.
use Prim.Native.Nat.{◌≤◌}
use Rattle.changes.specs.vocabulary.Marks.{Remapped}
use Rattle.changes.proofs.renumbering.remap.Given as goal

abbrev pub invariant-loop-i : goal.invariant-loop-i
invariant-loop-i l = (l.from ≤ l.i) × (l.i ≤ l.count) × Remapped l.to l.from l.i l.initial.column l.column
