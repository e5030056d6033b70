-- `numbers::four_from` meets its contract: the words at four positions.
use mathlib.Core.Path.{refl}
use Rattle.calls.specs.Calls.{four_from}
use Rattle.calls.proofs.numbers.four_from.Goals as goal

pub returns : goal.returns
unfolding four_from
returns c = refl
