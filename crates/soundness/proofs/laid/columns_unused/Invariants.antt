-- `laid::columns_unused` meets its contract: the answer so far tells of the columns passed.
use Prim.Native.Nat.{ℕ, ◌≤◌, ◌<◌, ◌+◌, ◌*◌}
use mathlib.Core.Path.{◌≡◌}
use mathlib.Core.List.{List}
use lib.ListN.{get_or}
use Rattle.soundness.specs.vocabulary.Laid.{Decides}
use Rattle.soundness.proofs.Decides.{Between}
use Rattle.soundness.proofs.laid.columns_unused.Given as goal

-- the slots from k on of column c are 0
abbrev pub Empty : List ℕ → ℕ → ℕ → ℕ → ℕ → Type 0
Empty t start size k c = (i : ℕ) → k ≤ i → i < size → get_or t (start + (c * size + i)) 0 ≡ 0

abbrev pub invariant-loop-c : goal.invariant-loop-c
invariant-loop-c l = Decides l.unused (Between 0 l.c (Empty l.t l.start l.size l.k))
