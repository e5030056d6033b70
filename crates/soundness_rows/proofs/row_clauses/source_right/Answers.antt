-- `row_clauses::source_right` meets its contract: one of the five.
use Rattle.std.proofs.Common.{refl}
use Rattle.soundness_rows.specs.vocabulary.Clauses.{shape_right}
use Rattle.soundness_rows.proofs.RowClauses.{opening-seen}
use Rattle.soundness_rows.proofs.row_clauses.source_right.Goals as goal

pub returns : goal.returns
unfolding shape_right
returns c =
    λ y rs h.
    rw (c.is_opening-opening.ensures, c.is_registered-registered.ensures y rs h, c.is_held-held.ensures y rs h, c.is_port_end-end.ensures y rs h, c.is_copy_over-copy.ensures y rs h)
    (rw (opening-seen h) refl)
