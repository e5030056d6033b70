-- `call_line::is_number` meets its contract.
use mathlib.Core.Path.{refl}
use Rattle.rows.specs.Limits.{greatest_number}
use Rattle.rows.specs.Lists.{between}
use Rattle.text.specs.CallLines.{is_number}
use Rattle.text.proofs.call_line.is_number.Goals as goal

pub returns : goal.returns
unfolding is_number between greatest_number
returns c = refl
