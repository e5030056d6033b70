-- `question::on_loan` meets its contract: `found` says whether one of the requests that the loop passed lists the end.
use Prim.Native.Nat.{◌≤◌}
use mathlib.Core.Path.{◌≡◌}
use Rattle.questions.proofs.Listed.{listed_to}
use Rattle.questions.proofs.question.on_loan.Given as goal

abbrev pub invariant-loop-j : goal.invariant-loop-j
invariant-loop-j l = (l.j ≤ l.count) × (l.found ≡ listed_to l.t l.e l.j)
