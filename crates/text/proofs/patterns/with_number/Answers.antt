-- `patterns::with_number` meets its contract.
use mathlib.Core.Path.{refl}
use Rattle.text.specs.Patterns.{counted}
use Rattle.text.proofs.patterns.with_number.Goals as goal

pub returns : goal.returns
unfolding counted
returns c = refl
