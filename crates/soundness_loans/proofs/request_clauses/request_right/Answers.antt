-- `request_clauses::request_right` meets its contract.
use mathlib.Core.Bool.{◌&&◌}
use Rattle.soundness_loans.specs.vocabulary.Clauses.{request_right}
use Rattle.soundness_loans.proofs.request_clauses.request_right.Goals as goal

pub returns : goal.returns
unfolding request_right
returns c = λ i. c.fetched_in_range-fetched.ensures i && (c.requester_listed-asked.ensures i && c.items_once-once.ensures i)
