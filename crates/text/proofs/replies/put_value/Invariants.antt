-- `replies::put_value` meets its contract: the digits written and those before them are the number's.
use Prim.Native.Nat.{◌<◌, suc}
use mathlib.Core.List.{◌++◌}
use mathlib.Core.Path.{◌≡◌}
use lib.ListN.{length, drop}
use Rattle.text.specs.Answers.{decimal}
use Rattle.text.specs.vocabulary.Sizes.{VALUE}
use Rattle.text.proofs.replies.put_value.Given as goal

abbrev pub invariant-loop-left : goal.invariant-loop-left
invariant-loop-left l = (0 < l.i) × (l.i < VALUE) × (length l.value ≡ VALUE) × (decimal l.i l.left ++ drop (suc l.i) l.value ≡ decimal 10 l.n)

abbrev pub decreases-loop-left : goal.decreases-loop-left
decreases-loop-left l = l.i
