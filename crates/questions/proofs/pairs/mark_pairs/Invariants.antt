-- The marks of the rows passed are right.
use Prim.Native.Nat.{◌≤◌}
use mathlib.Core.Path.{◌≡◌}
use lib.ListN.{length}
use Rattle.questions.specs.vocabulary.Pairs.{MarksPairs}
use Rattle.questions.proofs.pairs.mark_pairs.Given as goal

abbrev pub invariant-loop-i : goal.invariant-loop-i
invariant-loop-i l = (l.i ≤ l.n) × (length l.marks ≡ 1025) × MarksPairs l.t l.i l.requests l.marks
