-- `find::count_requests` meets its contract: the numbers of requests stand in front.
use Rattle.std.proofs.Common.{drop, arith, length-take}
use Rattle.rows.proofs.Lookups.{requests-counted}
use Rattle.rows.proofs.find.count_requests.Goals as goal

pub returns : goal.returns
returns c =
    let t = c.args.t.now in record { counted = (λ st rep. requests-counted rep c.front_in.result c.front_in.ensures.counted); within = omega (arith, c.front_in.ensures.within, length-take 128 (drop 10240 t)) }
