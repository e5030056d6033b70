-- `refusals::are_listed` meets its contract: what is left of the codes decides the whole.
use Prim.Native.Nat.{◌≤◌}
use mathlib.Core.List.{◌++◌}
use mathlib.Core.Path.{◌≡◌}
use lib.ListN.{length, drop}
use Rattle.rows.specs.Lists.{all}
use Rattle.text.specs.Opening.{entry_listed}
use Rattle.joining.specs.vocabulary.Directories.{entry_of, OfBoth}
use Rattle.joining.proofs.refusals.are_listed.Given as goal

abbrev pub invariant-loop-i : goal.invariant-loop-i
invariant-loop-i l = (l.i ≤ length l.codes) × OfBoth l.first l.second (λ fs gs. all (λ x. entry_listed (fs ++ gs) (entry_of x)) (drop l.i l.codes) ≡ all (λ x. entry_listed (fs ++ gs) (entry_of x)) l.codes)
