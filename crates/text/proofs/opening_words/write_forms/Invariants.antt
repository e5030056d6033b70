-- `opening_words::write_forms` meets its contract: the forms written, then the lines left.
use Prim.Native.Nat.{◌≤◌, ◌-◌, ◌+◌}
use lib.ListN.{length}
use Rattle.rows.specs.vocabulary.Sizes.{IsTables, IsRecords}
use Rattle.text.proofs.WrittenForms.{Forming}
use Rattle.text.proofs.opening_words.write_forms.Given as goal

abbrev pub invariant-loop-at : goal.invariant-loop-at
invariant-loop-at l = (l.at ≤ length l.text) × (l.n ≤ l.at + 1) × IsTables l.t × IsRecords l.p × Forming l.text l.t l.p l.g l.at l.n l.rows

abbrev pub decreases-loop-at : goal.decreases-loop-at
decreases-loop-at l = length l.text - l.at
