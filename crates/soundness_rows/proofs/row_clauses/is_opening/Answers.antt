-- `row_clauses::is_opening` meets its contract: the definition, test by test.
use Rattle.std.proofs.Common.{refl}
use Rattle.rows.specs.Sound.{is_opening}
use Rattle.soundness_rows.proofs.row_clauses.is_opening.Goals as goal

pub returns : goal.returns
unfolding is_opening
returns c = rw (c.is_node-node.ensures, c.is_copied-copied.ensures) refl
