-- Each turn writes a slot at least; `out` keeps its length.
use Rattle.std.proofs.Common.{◌-◌, ◌≡◌, length}
use Rattle.join.proofs.texts.print_answer.Given as goal

abbrev pub invariant-loop-from : goal.invariant-loop-from
invariant-loop-from g l = length l.out ≡ length l.fn.out

abbrev pub decreases-loop-from : goal.decreases-loop-from
decreases-loop-from g l = 97 - l.from
