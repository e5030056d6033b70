-- `rows_sound::ends_paired` meets its contract: the oldest row, each row beside the one before it, the newest row.
use Rattle.std.proofs.Common.{◌≡◌, ◌+◌, length}
use Rattle.rows.specs.Tables.{State}
use Rattle.rows.specs.vocabulary.Represents.{Represents}
use Rattle.soundness_rows.specs.vocabulary.Clauses.{beside_older}
use Rattle.soundness_rows.proofs.SlotLoops.{Tested}
use Rattle.soundness_rows.proofs.rows_sound.ends_paired.Given as goal

abbrev pub invariant-loop-i : goal.invariant-loop-i
invariant-loop-i l = (st : State) → Represents l.t st → l.n ≡ length st.rows → Tested beside_older st.rows (l.i + 1) l.right
