-- No element before the loop's is x.
use Rattle.std.proofs.Common.{◌≡◌, false, take}
use Rattle.std.specs.List.{list_any}
use Rattle.rows.proofs.find.before_first.Given as goal

abbrev pub invariant-loop-i : goal.invariant-loop-i
invariant-loop-i g l = list_any (λ y. g.T.PartialEq.eq y l.x) (take l.i l.xs) ≡ false
