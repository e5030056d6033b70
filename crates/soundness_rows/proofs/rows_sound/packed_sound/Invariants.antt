-- `rows_sound::packed_sound` meets its contract: the rows of the slots passed have right sources, or one has not.
use Rattle.std.proofs.Common.{◌≡◌, ◌≤◌, length}
use Rattle.rows.specs.Tables.{State}
use Rattle.rows.specs.vocabulary.Represents.{Represents}
use Rattle.soundness_rows.specs.vocabulary.Clauses.{by_sources}
use Rattle.soundness_rows.specs.vocabulary.Packed.{Faithful}
use Rattle.soundness_rows.proofs.SlotLoops.{Tested}
use Rattle.soundness_rows.proofs.rows_sound.packed_sound.Given as goal

abbrev pub invariant-loop-i : goal.invariant-loop-i
invariant-loop-i l = (l.i ≤ l.n)
    × ((st : State) → Represents l.t st → l.n ≡ length st.rows → Faithful st.rows → Tested by_sources st.rows l.i l.right)
