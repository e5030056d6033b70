-- `merging::add_new` meets its contract: those of the others that are looked at are added if they are new.
use Prim.Native.Nat.{◌≤◌, ◌-◌}
use mathlib.Core.Path.{◌≡◌}
use lib.ListN.{length}
use Rattle.joining.specs.vocabulary.Directories.{ENTRIES}
use Rattle.joining.proofs.NewEntries.{Adding}
use Rattle.joining.proofs.merging.add_new.Given as goal

abbrev pub invariant-loop-i : goal.invariant-loop-i
invariant-loop-i l = (l.i-end ≡ length l.others) × (l.i ≤ length l.others) × (length l.others ≤ ENTRIES) × Adding (record { count = l.initial.count; codes = l.initial.codes }) l.others l.i l.count l.codes

abbrev pub decreases-loop-i : goal.decreases-loop-i
decreases-loop-i l = l.i-end - l.i
