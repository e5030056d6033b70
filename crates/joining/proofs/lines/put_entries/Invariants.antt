-- `lines::put_entries` meets its contract: the entries put so far are the first of the codes.
use Prim.Native.Nat.{◌+◌, ◌*◌, ◌-◌, ◌≤◌}
use lib.ListN.{length, take}
use Rattle.text.specs.vocabulary.Replies.{Puts}
use Rattle.joining.specs.vocabulary.Lines.{ENTRY, codes_text}
use Rattle.joining.proofs.lines.put_entries.Given as goal

abbrev pub invariant-loop-i : goal.invariant-loop-i
invariant-loop-i l = (l.i ≤ l.i-end) × (l.i-end ≤ length l.codes) × (l.end ≤ l.at + ENTRY * l.i) × Puts l.initial.o l.at (codes_text (take l.i (take l.i-end l.codes))) l.o l.end

abbrev pub decreases-loop-i : goal.decreases-loop-i
decreases-loop-i l = l.i-end - l.i
