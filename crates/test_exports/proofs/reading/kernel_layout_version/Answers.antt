-- `reading::kernel_layout_version` meets its contract: the constant is the definition's.
use mathlib.Core.Path.{refl}
use Rattle.rows.specs.Layout.{layout_version}
use Rattle.test_exports.proofs.reading.kernel_layout_version.Goals as goal

pub returns : goal.returns
unfolding layout_version
returns c = refl
