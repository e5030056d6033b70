-- `call_line::if_ranged` meets its contract.
use mathlib.Core.Path.{◌∙◌}
use Rattle.text.specs.CallLines.{ranged}
use Rattle.text.proofs.call_line.if_ranged.Goals as goal

pub returns-then-in_range : goal.returns-then-in_range
unfolding ranged
returns-then-in_range c = rw c.if-in_range.true

pub returns-else-in_range : goal.returns-else-in_range
unfolding ranged
returns-else-in_range c = c.into.ensures ∙ rw c.if-in_range.false
