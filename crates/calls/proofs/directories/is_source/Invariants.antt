-- `directories::is_source`: `found` says whether one of the rows that the loop passed has the word.
use Prim.Native.Nat.{◌≤◌}
use mathlib.Core.Path.{◌≡◌}
use Rattle.calls.proofs.Used.{used_to}
use Rattle.calls.proofs.directories.is_source.Given as goal

abbrev pub invariant-loop-k : goal.invariant-loop-k
invariant-loop-k l = (l.k ≤ l.n) × (l.found ≡ used_to l.t l.word l.k)
