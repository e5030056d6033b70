-- `patterns::ends_at` meets its contract.
use mathlib.Core.Path.{◌∙◌}
use Rattle.rows.specs.Lists.{bytes}
use Rattle.text.specs.Patterns.{form}
use Rattle.text.proofs.patterns.ends_at.Goals as goal

pub returns : goal.returns
unfolding form bytes
returns c = c.is_whole.ensures ∙ rw c.read_form-f.ensures
