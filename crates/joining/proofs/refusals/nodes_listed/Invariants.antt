-- `refusals::nodes_listed` meets its contract: what is left of the nodes decides the whole.
use Prim.Native.Nat.{suc, ◌-◌, ◌≤◌}
use mathlib.Core.List.{List, ◌++◌}
use mathlib.Core.Path.{◌≡◌}
use Rattle.rows.specs.Lists.{all}
use Rattle.rows.specs.Limits.{nodes}
use Rattle.text.specs.Opening.{Form}
use Rattle.text.specs.vocabulary.Sizes.{NODES}
use Rattle.joining.specs.Joins.{numbers_from}
use Rattle.joining.specs.vocabulary.Directories.{Held, OfBoth}
use Rattle.joining.specs.vocabulary.Listed.{node_listed}
use Rattle.joining.proofs.refusals.nodes_listed.Given as goal

abbrev pub invariant-loop-n : goal.invariant-loop-n
invariant-loop-n l = (1 ≤ l.n) × (l.n ≤ suc NODES) × OfBoth l.first l.second (λ fs gs. (hs : List Form) → Held l.words hs → all (node_listed (fs ++ gs) hs) (numbers_from l.n (suc NODES - l.n)) ≡ all (node_listed (fs ++ gs) hs) (numbers_from 1 nodes))

abbrev pub decreases-loop-n : goal.decreases-loop-n
decreases-loop-n l = suc NODES - l.n
