-- `rows_sound::sources_sound` meets its contract: the fields and the words of the slots passed, each word one slot further on, and the tests over them.
use Rattle.std.proofs.Common.{◌≡◌, length}
use Rattle.rows.specs.Tables.{State}
use Rattle.rows.specs.Layout.{records_in}
use Rattle.rows.specs.vocabulary.Represents.{Represents}
use Rattle.soundness_rows.specs.vocabulary.Clauses.{own_right}
use Rattle.soundness_rows.specs.vocabulary.Packed.{PacksRows}
use Rattle.soundness_rows.proofs.SlotLoops.{Tested}
use Rattle.soundness_rows.proofs.rows_sound.sources_sound.Given as goal

abbrev pub invariant-loop-i : goal.invariant-loop-i
invariant-loop-i l = (length l.packs ≡ 1025)
    × PacksRows l.t l.i l.packs
    × ((st : State) → Represents l.t st → l.n ≡ length st.rows → Tested (λ y old. own_right (records_in l.p) y) st.rows l.i l.right)
