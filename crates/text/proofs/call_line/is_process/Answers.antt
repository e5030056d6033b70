-- `call_line::is_process` meets its contract.
use mathlib.Core.Path.{refl}
use Rattle.rows.specs.Limits.{processes}
use Rattle.rows.specs.Lists.{between}
use Rattle.text.specs.CallLines.{is_process}
use Rattle.text.proofs.call_line.is_process.Goals as goal

pub returns : goal.returns
unfolding is_process between processes
returns c = refl
