-- `row_clauses::place_in_range` meets its contract: the owner of a c-list by a difference that wraps elsewhere.
use Rattle.std.proofs.Common.{◌+◌, ◌%◌, arith}
use Rattle.rows.specs.Layout.{records_in}
use Rattle.soundness_rows.proofs.RowClauses.{place-wraps}
use Rattle.soundness_rows.proofs.row_clauses.place_in_range.Goals as goal

pub returns : goal.returns
returns c =
    let x = c.args.x in
    rw (c.is_node-node.ensures, c.is_clist-clist.ensures, c.listed-home.ensures)
    (place-wraps (records_in c.args.p.now) x ((x.place + 4294967196) % 4294967296) (omega arith) (omega arith))
