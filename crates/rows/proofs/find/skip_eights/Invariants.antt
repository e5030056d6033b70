-- No element of the eights before the loop's is x.
use Rattle.std.proofs.Common.{◌≡◌, ◌*◌, false, take}
use Rattle.std.specs.List.{list_any}
use Rattle.rows.proofs.find.skip_eights.Given as goal

abbrev pub invariant-loop-k : goal.invariant-loop-k
invariant-loop-k g l = list_any (λ y. g.T.PartialEq.eq y l.x) (take (l.k * 8) l.xs) ≡ false
