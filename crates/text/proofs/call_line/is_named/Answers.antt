-- `call_line::is_named` meets its contract.
use mathlib.Core.Path.{◌∙◌}
use Rattle.text.proofs.GroupLaws.{any-member}
use Rattle.text.proofs.call_line.is_named.Goals as goal

pub returns : goal.returns
returns c = c.contains.ensures.value ∙ any-member c.args.n c.args.ns.now
