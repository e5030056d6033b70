-- `request_clauses::items_once` meets its contract: of no items nothing is asked.
use Rattle.std.proofs.Common.{rules, ◌∙◌}
use Rattle.soundness_loans.proofs.RequestClauses.{none-twice}
use Rattle.soundness_loans.proofs.request_clauses.items_once.Goals as goal

pub returns-then-eq : goal.returns-then-eq
returns-then-eq c = c.if-eq.true ∙ none-twice c.args.v (search rules)
