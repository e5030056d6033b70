-- The pairs passed are told, each in its place.
use Prim.Native.Nat.{◌≤◌}
use mathlib.Core.Path.{◌≡◌}
use lib.ListN.{length}
use Rattle.calls.proofs.PairsTold.{ToldTo}
use Rattle.calls.proofs.comes_all.tell_each.Given as goal

abbrev pub invariant-loop-k : goal.invariant-loop-k
invariant-loop-k l = (l.k ≤ 16) × (length l.told ≡ 16) × ToldTo l.t l.n l.m l.marks l.es l.qs l.k l.told
