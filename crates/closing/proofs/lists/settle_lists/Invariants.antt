-- `lists::settle_lists`: the invariant is that the j oldest requests are done, however the list is cut there.
use Prim.Native.Nat.{ℕ, ◌≤◌}
use mathlib.Core.Bool.{Bool, true}
use mathlib.Core.List.{List}
use mathlib.Core.Path.{◌≡◌}
use Rattle.rows.specs.declared.Request.{Request}
use Rattle.rows.specs.Tables.{State}
use Rattle.rows.specs.Sound.{sound}
use Rattle.rows.specs.vocabulary.Sizes.{IsTables}
use Rattle.rows.specs.vocabulary.Represents.{Represents}
use Rattle.changes.specs.vocabulary.Bits.{marks_in}
use Rattle.closing.specs.vocabulary.Marks.{RowCount, RequestCount, RowsMarked, RequestsMarked}
use Rattle.closing.proofs.ListsPass.{Done}
use Rattle.closing.proofs.lists.settle_lists.Given as goal

abbrev pub invariant-loop-j : goal.invariant-loop-j
invariant-loop-j l = (l.j ≤ l.m) × IsTables l.t
    × ((st : State) (g : List ℕ) (f : Request → Bool) → sound st ≡ true → Represents l.initial.t st → RowCount l.n st → RequestCount l.m st
    → RowsMarked (marks_in l.removed) g st → RequestsMarked l.closed f st → Done g f st l.j l.t (marks_in l.out))
