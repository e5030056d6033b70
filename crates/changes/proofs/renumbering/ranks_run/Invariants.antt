-- The slots passed have their new numbers.
use Prim.Native.Nat.{◌≤◌}
use mathlib.Core.Path.{◌≡◌}
use lib.ListN.{length}
use Rattle.changes.specs.vocabulary.Marks.{RanksRun}
use Rattle.changes.proofs.renumbering.ranks_run.Given as goal

abbrev pub invariant-loop-i : goal.invariant-loop-i
invariant-loop-i l = (l.from ≤ l.i) × (l.i ≤ l.end) × (length l.to ≡ length l.initial.to) × RanksRun l.from l.i l.start l.initial.to l.to
