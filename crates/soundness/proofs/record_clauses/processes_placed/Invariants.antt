-- `record_clauses::processes_placed` meets its contract: the answer so far is that of the records passed.
use Prim.Native.Nat.{◌≤◌}
use lib.ListN.{take}
use Rattle.rows.specs.Sound.{placed_from}
use Rattle.rows.specs.Layout.{records_in}
use Rattle.rows.specs.vocabulary.OfState.{OfRows}
use Rattle.soundness.proofs.record_clauses.processes_placed.Given as goal

abbrev pub invariant-loop-i : goal.invariant-loop-i
invariant-loop-i l = (l.i ≤ 64) × OfRows l.t l.n l.placed (λ rs. placed_from rs 1 (take l.i (records_in l.p)))
