-- `new_rows::port_end`: field by field.
use mathlib.Core.Path.{refl}
use Rattle.calls.specs.Calls.{port_end}
use Rattle.calls.proofs.new_rows.port_end.Goals as goal

pub returns : goal.returns
unfolding port_end
returns c = refl
