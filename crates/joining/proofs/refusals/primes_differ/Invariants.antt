-- `refusals::primes_differ` meets its contract: what is left of the processes decides the whole.
use Prim.Native.Nat.{ℕ, suc, ◌-◌, ◌≤◌}
use mathlib.Core.Bool.{Bool, not, ◌&&◌}
use mathlib.Core.List.{List}
use mathlib.Core.Path.{◌≡◌}
use lib.Dec.{eqb}
use Rattle.rows.specs.Lists.{any}
use Rattle.rows.specs.vocabulary.Sizes.{PROCESSES}
use Rattle.text.specs.Opening.{Form, prime_of}
use Rattle.joining.specs.Joins.{process_in, numbers_from, primes_differ}
use Rattle.joining.specs.vocabulary.Directories.{OfBoth}
use Rattle.joining.proofs.refusals.primes_differ.Given as goal

abbrev pub differs : List Form → List Form → ℕ → Bool
differs fs gs p = process_in fs p && (process_in gs p && not (eqb (prime_of fs p) (prime_of gs p)))

abbrev pub invariant-loop-p : goal.invariant-loop-p
invariant-loop-p l = (1 ≤ l.p) × (l.p ≤ suc PROCESSES) × OfBoth l.first l.second (λ fs gs. any (differs fs gs) (numbers_from l.p (suc PROCESSES - l.p)) ≡ primes_differ fs gs)

abbrev pub decreases-loop-p : goal.decreases-loop-p
decreases-loop-p l = suc PROCESSES - l.p
