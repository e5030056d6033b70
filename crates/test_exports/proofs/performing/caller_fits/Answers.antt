-- `performing::caller_fits` meets its contract: the tests as they stand.
use mathlib.Core.Path.{refl}
use Rattle.rows.specs.Lists.{between}
use Rattle.test_exports.proofs.performing.caller_fits.Goals as goal

pub returns : goal.returns
unfolding between
returns c = refl
