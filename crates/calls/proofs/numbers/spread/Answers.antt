-- The four numbers of each four, in order.
use mathlib.Core.Path.{refl}
use Rattle.calls.specs.Answers.{numbers_of, all_of}
use Rattle.calls.proofs.numbers.spread.Goals as goal

pub returns : goal.returns
unfolding all_of numbers_of
returns c = refl
