-- `feeding::feed` meets its contract: the bytes read so far are fed.
use Prim.Native.Nat.{◌-◌, ◌≤◌}
use mathlib.Core.Path.{◌≡◌}
use lib.ListN.{length}
use Rattle.joining.specs.vocabulary.Reading.{is_going}
use Rattle.joining.proofs.ReadOn.{Feeding}
use Rattle.joining.proofs.feeding.feed.Given as goal

abbrev pub invariant-loop-going : goal.invariant-loop-going
invariant-loop-going l = (l.i ≤ length l.part) × (length l.line ≡ length l.initial.line) × (length l.first ≡ length l.initial.first) × (length l.second ≡ length l.initial.second) × (l.going ≡ is_going l.here.stage)
    × Feeding l.part l.initial.here l.initial.kept l.initial.line l.initial.first l.initial.second l.i l.here l.kept l.line l.first l.second

abbrev pub decreases-loop-going : goal.decreases-loop-going
decreases-loop-going l = length l.part - l.i
