-- `changing::request_of` meets its contract: field by field.
use mathlib.Core.Path.{refl}
use Rattle.test_exports.proofs.changing.request_of.Goals as goal

pub returns : goal.returns
returns c = refl
