-- `find::front_in` meets its contract: where words in use stand in front, std's partition point is the first 0.
use Rattle.std.proofs.Common.{not, eqb, rules}
use Rattle.std.proofs.lemmas.List.Sorted.{IsPartitionPoint-from_clause}
use Rattle.rows.proofs.Searches.{front-parted, front-point}
use Rattle.rows.proofs.find.front_in.Goals as goal

pub returns-clause-counted : goal.returns-clause-counted
returns-clause-counted c = λ front.
    let column = c.args.column.now in
    let point = IsPartitionPoint-from_clause (λ w. not (eqb w 0)) column _ c.partition_point.ensures.partitioned (front-parted column front) (λ a r q k. search rules) in
    front-point column c.partition_point.result c.partition_point.ensures.bound point
