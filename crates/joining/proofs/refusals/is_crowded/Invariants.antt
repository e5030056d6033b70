-- `refusals::is_crowded` meets its contract: what is left of the nodes decides the whole.
use Prim.Native.Nat.{suc, ◌-◌, ◌≤◌}
use mathlib.Core.Path.{◌≡◌}
use lib.Dec.{ltb}
use lib.ListN.{length}
use Rattle.rows.specs.Lists.{any}
use Rattle.text.specs.vocabulary.Sizes.{NODES}
use Rattle.joining.specs.Joins.{numbers_from, entries_joined, node_crowded}
use Rattle.joining.specs.vocabulary.Directories.{ENTRIES, OfBoth}
use Rattle.joining.proofs.refusals.is_crowded.Given as goal

abbrev pub invariant-loop-n : goal.invariant-loop-n
invariant-loop-n l = (1 ≤ l.n) × (l.n ≤ suc NODES) × OfBoth l.first l.second (λ fs gs. any (λ m. ltb ENTRIES (length (entries_joined fs gs m))) (numbers_from l.n (suc NODES - l.n)) ≡ node_crowded fs gs)

abbrev pub decreases-loop-n : goal.decreases-loop-n
decreases-loop-n l = suc NODES - l.n
