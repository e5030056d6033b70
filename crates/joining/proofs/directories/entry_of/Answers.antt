-- `directories::entry_of` meets its contract.
use mathlib.Core.Path.{refl}
use Rattle.joining.specs.vocabulary.Directories.{entry_of}
use Rattle.joining.proofs.directories.entry_of.Goals as goal

pub returns : goal.returns
unfolding entry_of
returns c = refl
