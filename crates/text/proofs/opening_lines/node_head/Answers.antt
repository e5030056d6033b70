-- `opening_lines::node_head` meets its contract.
use Rattle.rows.specs.Lists.{bytes}
use Rattle.text.specs.Patterns.{form}
use Rattle.text.proofs.opening_lines.node_head.Goals as goal

pub returns : goal.returns
unfolding form bytes
returns c = c.read_form.ensures
