-- `holder_clauses::system_holds` meets its contract.
use mathlib.Core.Path.{refl}
use Rattle.rows.specs.Sound.{same}
use Rattle.rows.specs.Codes.{with_system, is_system}
use Rattle.soundness_loans.proofs.holder_clauses.system_holds.Goals as goal

pub returns : goal.returns
unfolding same is_system with_system
returns c = refl
