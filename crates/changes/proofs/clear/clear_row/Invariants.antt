-- The row is 0 in the columns passed.
use Rattle.changes.proofs.ClearRows.{RowCleared}
use Rattle.changes.proofs.clear.clear_row.Given as goal

abbrev pub invariant-loop-k : goal.invariant-loop-k
invariant-loop-k l = RowCleared l.size l.columns l.row l.initial.part l.part l.k
