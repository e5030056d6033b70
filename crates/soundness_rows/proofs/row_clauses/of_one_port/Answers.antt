-- `row_clauses::of_one_port` meets its contract: the two tests.
use Rattle.std.proofs.Common.{refl}
use Rattle.soundness_rows.proofs.row_clauses.of_one_port.Goals as goal

pub returns : goal.returns
returns c = refl
