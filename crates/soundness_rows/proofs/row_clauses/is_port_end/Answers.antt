-- `row_clauses::is_port_end` meets its contract: the definition, test by test.
use Rattle.std.proofs.Common.{refl}
use Rattle.rows.specs.Tables.{row_of}
use Rattle.rows.specs.Codes.{operation, is_operation}
use Rattle.rows.specs.Sound.{is_port_end}
use Rattle.soundness_rows.proofs.row_clauses.is_port_end.Goals as goal

pub returns : goal.returns
unfolding is_port_end is_operation operation
returns c =
    λ y rs h.
    rw (c.is_end-end.ensures, c.is_node-node.ensures, c.kind_in-kind.ensures (row_of rs y.source) h.source)
    (rw (h.own.place, h.own.kind, h.via-none, h.own.request) refl)
