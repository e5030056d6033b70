-- The marks passed are copied.
use Prim.Native.Nat.{◌≤◌}
use mathlib.Core.Path.{◌≡◌}
use lib.ListN.{length}
use Rattle.changes.specs.vocabulary.Bits.{marks_in}
use Rattle.changes.proofs.BitLaws.{Copied}
use Rattle.changes.proofs.remove.request_bits.Given as goal

abbrev pub invariant-loop-j : goal.invariant-loop-j
invariant-loop-j l = (l.j ≤ l.count) × (length (marks_in l.packed) ≡ 1024) × Copied l.marks (marks_in l.packed) l.j
