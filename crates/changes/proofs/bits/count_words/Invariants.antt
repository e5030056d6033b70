-- The words passed are counted.
use Prim.Native.Nat.{◌*◌, ◌≤◌}
use mathlib.Core.Path.{◌≡◌}
use Rattle.changes.specs.vocabulary.Bits.{marks_in, gones}
use Rattle.changes.proofs.bits.count_words.Given as goal

abbrev pub invariant-loop-k : goal.invariant-loop-k
invariant-loop-k l = (l.k ≤ l.words) × (l.total ≤ l.k * 64) × (l.total ≡ gones (marks_in l.marks) (l.k * 64))
