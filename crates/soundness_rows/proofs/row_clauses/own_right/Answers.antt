-- `row_clauses::own_right` meets its contract: the four tests.
use Rattle.std.proofs.Common.{refl}
use Rattle.rows.specs.Limits.{greatest_depth}
use Rattle.soundness_rows.specs.vocabulary.Clauses.{own_right}
use Rattle.soundness_rows.proofs.row_clauses.own_right.Goals as goal

pub returns : goal.returns
unfolding own_right greatest_depth
returns c = rw (c.object_in_range-object.ensures, c.right_in_range-right.ensures, c.place_in_range-place.ensures) refl
