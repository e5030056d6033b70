-- `ask::copies_of`: what is counted, with what the items from the loop's position on take, is what all take.
use Prim.Native.Nat.{◌+◌, ◌≤◌}
use mathlib.Core.Path.{◌≡◌}
use lib.ListN.{drop}
use Rattle.calls.specs.vocabulary.Asks.{copies_in}
use Rattle.calls.proofs.ask.copies_of.Given as goal

abbrev pub invariant-loop-x : goal.invariant-loop-x
invariant-loop-x l = (l.copies ≤ l.x-index) × (l.copies + copies_in (drop l.x-index l.x-items) ≡ copies_in l.x-items)
