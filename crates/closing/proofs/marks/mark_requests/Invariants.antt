-- `marks::mark_requests`: the invariant is that the j oldest requests are marked, however the list is cut there.
use Prim.Native.Nat.{ℕ, ◌≤◌}
use mathlib.Core.Bool.{true}
use mathlib.Core.List.{List}
use mathlib.Core.Path.{◌≡◌}
use Rattle.rows.specs.Tables.{State}
use Rattle.rows.specs.Sound.{sound}
use Rattle.rows.specs.vocabulary.Sizes.{REQUESTS}
use Rattle.rows.specs.vocabulary.Represents.{Represents}
use Rattle.changes.specs.vocabulary.Bits.{marks_in}
use Rattle.closing.specs.Closing.{closes}
use Rattle.closing.specs.vocabulary.Seeds.{closes_of}
use Rattle.closing.specs.vocabulary.Marks.{RowCount, RequestCount, RowsMarked}
use Rattle.closing.proofs.MarksPass.{MarkedTo}
use Rattle.closing.proofs.marks.mark_requests.Given as goal

abbrev pub invariant-loop-j : goal.invariant-loop-j
invariant-loop-j l = (l.j ≤ l.m)
    × ((st : State) (g : List ℕ) → sound st ≡ true → Represents l.t st → RowCount l.n st → RequestCount l.m st → RowsMarked (marks_in l.removed) g st
    → MarkedTo (closes (closes_of l.s) g) REQUESTS st.requests l.j l.closed)
