-- `merging::copy_codes` meets its contract: the codes copied so far, 0 after them.
use Prim.Native.Nat.{◌≤◌, ◌-◌}
use mathlib.Core.Path.{◌≡◌}
use lib.ListN.{length, take}
use Rattle.rows.specs.Lists.{pad}
use Rattle.joining.specs.vocabulary.Merged.{CODES}
use Rattle.joining.proofs.merging.copy_codes.Given as goal

abbrev pub invariant-loop-i : goal.invariant-loop-i
invariant-loop-i l = (l.i-end ≡ length l.codes) × (l.i ≤ length l.codes) × (length l.codes ≤ 16) × (length l.copied ≡ CODES) × (l.copied ≡ pad 0 CODES (take l.i l.codes))

abbrev pub decreases-loop-i : goal.decreases-loop-i
decreases-loop-i l = l.i-end - l.i
