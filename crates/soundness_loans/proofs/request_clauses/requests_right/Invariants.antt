-- `request_clauses::requests_right` meets its contract: the requests of the first slots pass, or not.
use Prim.Native.Nat.{◌≤◌}
use mathlib.Core.Path.{◌≡◌}
use Rattle.soundness_loans.specs.vocabulary.Clauses.{request_right}
use Rattle.rows.specs.Layout.{requests_to, records_in}
use Rattle.rows.specs.Lists.{all}
use Rattle.soundness_loans.proofs.request_clauses.requests_right.Given as goal

abbrev pub invariant-loop-j : goal.invariant-loop-j
invariant-loop-j l = (l.j ≤ l.m) × (l.right ≡ all (request_right (records_in l.p)) (requests_to l.t l.j))
