-- `row_clauses::follows` meets its contract: the number before wraps where there is none.
use Rattle.std.proofs.Common.{◌+◌, ◌%◌, arith}
use Rattle.soundness_rows.proofs.RowClauses.{follows-wraps}
use Rattle.soundness_rows.proofs.row_clauses.follows.Goals as goal

pub returns : goal.returns
returns c =
    let b = c.args.b in follows-wraps c.args.a b ((b + 4294967295) % 4294967296) (omega arith) (omega (arith, c.ranges.b.fits))
