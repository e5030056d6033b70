-- `find::requests_in` meets its contract: it counts in the column of numbers.
use Rattle.std.proofs.Common.{drop, arith, length-take}
use Rattle.rows.specs.Limits.{row_slots, request_slots}
use Rattle.rows.specs.Layout.{row_columns, requests_at, requests_in}
use Rattle.rows.proofs.find.requests_in.Goals as goal

pub returns : goal.returns
unfolding requests_in request_slots requests_at row_columns row_slots
returns c =
    let t = c.args.t.now in
    record { counted = c.leading_in.ensures.counted; within = omega (arith, c.leading_in.ensures.within, length-take 128 (drop 10240 t)) }
