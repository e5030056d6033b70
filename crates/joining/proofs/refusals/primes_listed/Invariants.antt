-- `refusals::primes_listed` meets its contract: what is left of the processes decides the whole.
use Prim.Native.Nat.{suc, ◌-◌, ◌≤◌}
use mathlib.Core.List.{List, ◌++◌}
use mathlib.Core.Path.{◌≡◌}
use Rattle.rows.specs.Lists.{all}
use Rattle.rows.specs.Limits.{processes}
use Rattle.rows.specs.vocabulary.Sizes.{PROCESSES}
use Rattle.text.specs.Opening.{Form}
use Rattle.joining.specs.Joins.{numbers_from}
use Rattle.joining.specs.vocabulary.Directories.{Held, OfBoth}
use Rattle.joining.specs.vocabulary.Listed.{prime_listed}
use Rattle.joining.proofs.refusals.primes_listed.Given as goal

abbrev pub invariant-loop-p : goal.invariant-loop-p
invariant-loop-p l = (1 ≤ l.p) × (l.p ≤ suc PROCESSES) × OfBoth l.first l.second (λ fs gs. (hs : List Form) → Held l.words hs → all (prime_listed (fs ++ gs) hs) (numbers_from l.p (suc PROCESSES - l.p)) ≡ all (prime_listed (fs ++ gs) hs) (numbers_from 1 processes))

abbrev pub decreases-loop-p : goal.decreases-loop-p
decreases-loop-p l = suc PROCESSES - l.p
