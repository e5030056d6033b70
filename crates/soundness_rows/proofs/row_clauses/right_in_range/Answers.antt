-- `row_clauses::right_in_range` meets its contract: none, or an operation or subdirectory with at most all.
use Rattle.soundness_rows.proofs.RowClauses.{right-split}
use Rattle.soundness_rows.proofs.row_clauses.right_in_range.Goals as goal

pub returns : goal.returns
returns c = rw c.is_end-end.ensures (right-split c.args.x)
