-- `directories::entry_code` meets its contract.
use mathlib.Core.Path.{refl}
use Rattle.joining.specs.vocabulary.Directories.{entry_code}
use Rattle.joining.proofs.directories.entry_code.Goals as goal

pub returns : goal.returns
unfolding entry_code
returns c = refl
