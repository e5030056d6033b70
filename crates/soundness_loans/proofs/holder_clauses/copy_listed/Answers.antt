-- `holder_clauses::copy_listed` meets its contract.
use mathlib.Core.Path.{refl}
use Rattle.rows.specs.Lists.{some}
use Rattle.soundness_loans.proofs.holder_clauses.copy_listed.Goals as goal

pub returns : goal.returns
unfolding some
returns c = refl
