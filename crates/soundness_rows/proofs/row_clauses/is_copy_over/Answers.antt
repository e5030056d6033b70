-- `row_clauses::is_copy_over` meets its contract: the definition, test by test.
use Rattle.std.proofs.Common.{refl}
use Rattle.rows.specs.Lists.{some}
use Rattle.rows.specs.Tables.{row_of}
use Rattle.rows.specs.Codes.{client_end, is_client}
use Rattle.soundness_rows.specs.vocabulary.Clauses.{is_copy_over}
use Rattle.soundness_rows.proofs.row_clauses.is_copy_over.Goals as goal

pub returns : goal.returns
unfolding is_copy_over is_client client_end some
returns c =
    λ y rs h.
    rw (c.is_node-node.ensures, c.is_copied-copied.ensures, c.is_copied-from.ensures, c.kind_in-kind.ensures (row_of rs y.source) h.source, c.kind_in-over.ensures (row_of rs y.via) h.via)
    (rw (h.own.place, h.own.kind, h.own.request) refl)
