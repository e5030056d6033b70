-- `request_clauses::numbers-apart` meets its contract: the requests passed are told, and the rows passed are below those to come.
use Prim.Native.Nat.{◌≤◌}
use mathlib.Core.Path.{◌≡◌}
use lib.ListN.{length}
use Rattle.rows.specs.Tables.{State}
use Rattle.rows.specs.vocabulary.Represents.{Represents}
use Rattle.soundness_loans.proofs.NumbersApart.{Walked}
use Rattle.soundness_loans.proofs.request_clauses.numbers_apart.Given as goal

abbrev pub invariant-loop-j : goal.invariant-loop-j
invariant-loop-j l = (l.j ≤ l.m) × (l.s ≤ l.n) × ((st : State) (rep : Represents l.t st) → l.n ≡ length st.rows → l.m ≡ length st.requests → Walked rep l.j l.s l.apart)
