-- `request_clauses::first_not_below` meets its contract: the slots passed are below.
use Prim.Native.Nat.{ℕ, ◌<◌, ◌≤◌}
use Rattle.soundness_loans.specs.vocabulary.Clauses.{slot_number}
use Rattle.soundness_loans.proofs.request_clauses.first_not_below.Given as goal

abbrev pub invariant-loop-s : goal.invariant-loop-s
invariant-loop-s l = (i : ℕ) → l.from ≤ i → i < l.s → slot_number l.t i < l.q
