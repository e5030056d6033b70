-- `find::count_rows` meets its contract: the numbers of rows stand in front.
use Rattle.std.proofs.Common.{drop, arith, length-take}
use Rattle.rows.proofs.Lookups.{rows-counted}
use Rattle.rows.proofs.find.count_rows.Goals as goal

pub returns : goal.returns
returns c =
    let t = c.args.t.now in record { counted = (λ st rep. rows-counted rep c.front_in.result c.front_in.ensures.counted); within = omega (arith, c.front_in.ensures.within, length-take 1024 (drop 0 t)) }
