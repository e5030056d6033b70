-- `replies::put_text` meets its contract: the bytes put so far are the first of the text.
use Prim.Native.Nat.{◌≤◌, ◌+◌, ◌-◌}
use mathlib.Core.Path.{◌≡◌}
use lib.ListN.{length, take}
use Rattle.text.specs.vocabulary.Replies.{Puts}
use Rattle.text.proofs.replies.put_text.Given as goal

abbrev pub invariant-loop-k : goal.invariant-loop-k
invariant-loop-k l = (l.k-end ≡ length l.t) × (l.k ≤ length l.t) × Puts l.initial.o l.at (take l.k l.t) l.o (l.at + l.k)

abbrev pub decreases-loop-k : goal.decreases-loop-k
decreases-loop-k l = l.k-end - l.k
