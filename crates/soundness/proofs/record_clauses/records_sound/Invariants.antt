-- `record_clauses::records_sound` meets its contract: the answer so far is that of the records passed.
use Prim.Native.Nat.{◌≤◌}
use mathlib.Core.Path.{◌≡◌}
use lib.ListN.{take}
use Rattle.rows.specs.Lists.{all}
use Rattle.rows.specs.Sound.{record_in_range}
use Rattle.rows.specs.Layout.{records_in}
use Rattle.soundness.proofs.record_clauses.records_sound.Given as goal

abbrev pub invariant-loop-i : goal.invariant-loop-i
invariant-loop-i l = (l.i ≤ 64) × (l.in_range ≡ all record_in_range (take l.i (records_in l.p)))
