-- The seeds among the rows passed are marked.
use Prim.Native.Nat.{◌≤◌}
use Rattle.rows.specs.Tables.{State}
use Rattle.rows.specs.vocabulary.Sizes.{ROWS}
use Rattle.rows.specs.vocabulary.Represents.{Represents}
use Rattle.changes.specs.vocabulary.Bits.{marks_in}
use Rattle.closing.specs.vocabulary.Marks.{RowCount}
use Rattle.closing.specs.vocabulary.Seeds.{seed_of}
use Rattle.closing.proofs.MarksPass.{MarkedTo}
use Rattle.closing.proofs.marks.mark_seeds.Given as goal

abbrev pub invariant-loop-i : goal.invariant-loop-i
invariant-loop-i l = (l.i ≤ l.n) × ((st : State) → Represents l.t st → RowCount l.n st → MarkedTo (seed_of l.s) ROWS st.rows l.i (marks_in l.marks))
