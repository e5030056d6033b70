-- `row_clauses::depth_right` meets its contract: the greater depth of the two, and 1.
use Rattle.std.proofs.Common.{suc, max}
use Rattle.rows.specs.Tables.{row_of}
use Rattle.rows.proofs.Bools.{eqb-sym}
use Rattle.soundness_rows.specs.vocabulary.Clauses.{depth_next}
use Rattle.soundness_rows.proofs.row_clauses.depth_right.Goals as goal

pub returns : goal.returns
unfolding depth_next
returns c =
    λ y rs h.
    rw (c.follows.ensures, c.max-top.ensures, c.depth_in-first.ensures (row_of rs y.source) h.source, c.depth_in-second.ensures (row_of rs y.via) h.via, h.own.depth)
    (eqb-sym (suc (max (row_of rs y.source).depth (row_of rs y.via).depth)) y.depth)
