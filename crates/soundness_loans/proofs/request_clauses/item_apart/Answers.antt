-- `request_clauses::item_apart` meets its contract.
use mathlib.Core.Bool.{Bool, not, ◌||◌}
use mathlib.Core.Path.{ap, ◌∙◌}
use lib.Dec.{ltb}
use Rattle.rows.specs.Lists.{some}
use Rattle.soundness_loans.proofs.RequestClauses.{any-member}
use Rattle.soundness_loans.proofs.request_clauses.item_apart.Goals as goal

pub returns : goal.returns
unfolding some
returns c = let a = c.args in ap (λ (b : Bool). not (ltb 0 a.e) || not b) (c.contains.ensures.value ∙ any-member a.e a.after.now)
