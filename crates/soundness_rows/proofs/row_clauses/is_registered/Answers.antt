-- `row_clauses::is_registered` meets its contract: the definition, test by test.
use Rattle.std.proofs.Common.{refl}
use Rattle.rows.specs.Tables.{row_of}
use Rattle.rows.specs.Sound.{is_registered}
use Rattle.soundness_rows.proofs.row_clauses.is_registered.Goals as goal

pub returns : goal.returns
unfolding is_registered
returns c =
    λ y rs h.
    rw (c.is_node-node.ensures, c.is_copied-copied.ensures, c.node_in-from.ensures (row_of rs y.source) h.source)
    (rw (h.own.place, h.own.kind, h.via-none, h.own.request) refl)
