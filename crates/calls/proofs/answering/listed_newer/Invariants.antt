-- `answering::listed_newer`: `found` says whether one of the requests that the loop passed is newer and lists the item.
use Prim.Native.Nat.{◌≤◌}
use mathlib.Core.Path.{◌≡◌}
use Rattle.calls.proofs.LentEnds.{newer_to}
use Rattle.calls.proofs.answering.listed_newer.Given as goal

abbrev pub invariant-loop-k : goal.invariant-loop-k
invariant-loop-k l = (l.k ≤ l.m) × (l.found ≡ newer_to l.t l.q l.e l.k)
