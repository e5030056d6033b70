-- `sessions::feed` meets its contract: the bytes read so far are fed.
use Prim.Native.Nat.{◌≤◌}
use mathlib.Core.Path.{◌≡◌}
use lib.ListN.{length}
use Rattle.feed.proofs.Parts.{Feeding}
use Rattle.feed.proofs.sessions.feed.Given as goal

abbrev pub invariant-loop-i : goal.invariant-loop-i
invariant-loop-i l = Feeding l.part l.at l.initial.here l.initial.kept l.initial.tables l.initial.processes l.initial.out l.here l.kept l.tables l.processes l.out l.i l.n
    × (length l.tables ≡ length l.initial.tables) × (length l.processes ≡ length l.initial.processes) × (length l.kept ≡ length l.initial.kept) × (length l.out ≡ length l.initial.out) × (l.n ≤ length l.out)
