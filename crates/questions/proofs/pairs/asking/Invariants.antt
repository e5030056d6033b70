-- The bits of the pairs looked at are right, and no other is set.
use Prim.Native.Nat.{◌≤◌}
use Rattle.questions.proofs.PairMarks.{AskedTo}
use Rattle.questions.proofs.pairs.asking.Given as goal

abbrev pub invariant-loop-k : goal.invariant-loop-k
invariant-loop-k l = (l.k ≤ 16) × AskedTo l.requests l.q l.k l.bits
