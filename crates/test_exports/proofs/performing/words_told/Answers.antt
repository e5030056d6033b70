-- `performing::words_told` meets its contract: the code, then the four numbers of each four, in order.
use mathlib.Core.Path.{refl}
use Rattle.calls.specs.Answers.{numbers_of, all_of}
use Rattle.test_exports.proofs.performing.words_told.Goals as goal

pub returns : goal.returns
unfolding all_of numbers_of
returns c = refl
