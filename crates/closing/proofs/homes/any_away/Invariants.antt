-- `homes::any_away`: while it says no, the records passed have gone through no row.
use Prim.Native.Nat.{◌≤◌}
use mathlib.Core.Bool.{false}
use mathlib.Core.Path.{◌≡◌}
use Rattle.closing.specs.vocabulary.Takes.{HomeTo}
use Rattle.closing.proofs.homes.any_away.Given as goal

abbrev pub invariant-loop-k : goal.invariant-loop-k
invariant-loop-k l = (l.k ≤ 64) × (l.away ≡ false → HomeTo l.ps l.k)
