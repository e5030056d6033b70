-- `lines::write_slots` meets its contract: the lines of the slots so far stand in front.
use Prim.Native.Nat.{◌*◌, ◌-◌, ◌≤◌}
use mathlib.Core.Path.{◌≡◌}
use lib.ListN.{length}
use Rattle.text.specs.vocabulary.Sizes.{REPLY}
use Rattle.joining.specs.vocabulary.Directories.{OfBoth}
use Rattle.joining.specs.vocabulary.Lines.{SLOTS, Puts, slots_text}
use Rattle.joining.proofs.lines.write_slots.Given as goal

abbrev pub invariant-loop-k : goal.invariant-loop-k
invariant-loop-k l = (l.from ≤ l.k) × (l.from ≤ SLOTS → l.k ≤ SLOTS) × (l.n ≤ REPLY * (l.k - l.from)) × (length l.out ≡ length l.initial.out) × (l.n ≤ length l.initial.out)
    × OfBoth l.first l.second (λ fs gs. Puts (slots_text fs gs l.from (l.k - l.from)) l.initial.out l.out l.n)

abbrev pub decreases-loop-k : goal.decreases-loop-k
decreases-loop-k l = SLOTS - l.k
