-- `patterns::no_form` meets its contract.
use mathlib.Core.Path.{refl}
use Rattle.text.specs.Patterns.{bad}
use Rattle.text.proofs.patterns.no_form.Goals as goal

pub returns : goal.returns
unfolding bad
returns c = refl
