-- `row_clauses::copy_matches` meets its contract: of an end nothing is asked; else kind, operation and object as one number, and the rights.
use Rattle.rows.specs.Tables.{row_of}
use Rattle.soundness_rows.proofs.RowClauses.{copy-split}
use Rattle.soundness_rows.proofs.row_clauses.copy_matches.Goals as goal

pub returns : goal.returns
returns c =
    λ y rs h p.
    let src = row_of rs y.source in
    rw (c.is_end-end.ensures, c.within-rights.ensures, c.rights_in-own.ensures y p, c.rights_in-given.ensures src h.source, h.own.kind, h.source-none)
    (copy-split rs y c.same_object-same.result (c.same_object-same.ensures y src p h.source))
