-- `request_clauses::ports_right` meets its contract: the marks are the slots of the ports so far.
use Prim.Native.Nat.{◌≤◌}
use mathlib.Core.Path.{◌≡◌}
use lib.ListN.{length}
use Rattle.rows.specs.vocabulary.Represents.{Represents}
use Rattle.rows.specs.Layout.{requests_to}
use Rattle.rows.specs.Tables.{State}
use Rattle.soundness_loans.proofs.RequestClausesLoops.{Ports}
use Rattle.soundness_loans.proofs.request_clauses.ports_right.Given as goal

abbrev pub invariant-loop-j : goal.invariant-loop-j
invariant-loop-j l = (l.j ≤ l.m) × ((st : State) → Represents l.t st → l.n ≡ length st.rows → Ports st.rows (requests_to l.t l.j) l.marks l.right)
