-- `request_clauses::items_apart` meets its contract: the items passed are apart from those after them.
use Rattle.std.proofs.Common.{◌≡◌, drop}
use Rattle.std.specs.Prelude.{◌&&◌}
use Rattle.rows.specs.Lists.{distinct, nonzero}
use Rattle.soundness_loans.proofs.request_clauses.items_apart.Given as goal

abbrev pub invariant-loop-k : goal.invariant-loop-k
invariant-loop-k l = l.apart && distinct (nonzero (drop l.k l.items)) ≡ distinct (nonzero l.items)
