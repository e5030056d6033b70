-- `question::lists_item` meets its contract: what std's `contains` says of the four items.
use Rattle.std.proofs.Common.{◌∙◌}
use Rattle.rows.proofs.Bools.{any-member}
use Rattle.questions.proofs.question.lists_item.Goals as goal

pub returns : goal.returns
returns c = c.contains.ensures.value ∙ rw c.request_at.ensures (any-member c.args.e _)
