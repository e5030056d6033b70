-- `row_clauses::is_held` meets its contract: the definition, test by test.
use Rattle.std.proofs.Common.{refl}
use Rattle.rows.specs.Tables.{row_of}
use Rattle.rows.specs.Codes.{subdirectory, is_subdirectory}
use Rattle.rows.specs.Sound.{is_held}
use Rattle.soundness_rows.proofs.row_clauses.is_held.Goals as goal

pub returns : goal.returns
unfolding is_held is_subdirectory subdirectory
returns c =
    λ y rs h.
    rw (c.is_clist-home.ensures, c.is_copied-copied.ensures, c.node_in-from.ensures (row_of rs y.source) h.source, c.kind_in-kind.ensures (row_of rs y.via) h.via)
    (rw (h.own.place, h.own.kind, h.via-none, h.own.request) refl)
