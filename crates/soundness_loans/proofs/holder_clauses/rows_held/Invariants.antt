-- `holder_clauses::rows_held` meets its contract: the rows of the first slots are held and listed as they must be, or not.
use Prim.Native.Nat.{◌≤◌}
use mathlib.Core.Path.{◌≡◌}
use Rattle.soundness_loans.specs.vocabulary.Clauses.{held_to}
use Rattle.soundness_loans.proofs.holder_clauses.rows_held.Given as goal

abbrev pub invariant-loop-i : goal.invariant-loop-i
invariant-loop-i l = (l.i ≤ l.n) × (l.right ≡ held_to l.t l.listing l.i)
