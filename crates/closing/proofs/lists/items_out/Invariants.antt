-- `lists::items_out`: the invariant is that the first k items are done.
use Prim.Native.Nat.{ℕ}
use mathlib.Core.Bool.{Bool}
use mathlib.Core.List.{List}
use mathlib.Core.Path.{◌≡◌}
use Rattle.rows.specs.declared.Request.{Request}
use Rattle.rows.specs.Tables.{State}
use Rattle.rows.specs.vocabulary.Sizes.{IsTables}
use Rattle.rows.specs.vocabulary.Represents.{Represents}
use Rattle.changes.specs.vocabulary.Bits.{marks_in}
use Rattle.closing.specs.vocabulary.Marks.{RowCount}
use Rattle.closing.specs.vocabulary.Lists.{SlotsMarked, InSlot, ItemsStand}
use Rattle.closing.proofs.ListsOut.{out_state}
use Rattle.closing.proofs.lists.items_out.Given as goal

abbrev pub invariant-loop-k : goal.invariant-loop-k
invariant-loop-k l = IsTables l.t
    × ((st : State) (b : ℕ → Bool) (new : List Request) (x : Request) (old : List Request) → x.items ≡ l.fn.v.items
    → Represents l.initial.t st → RowCount l.n st → InSlot l.j new x old st → ItemsStand st l.fn.v.items → SlotsMarked (marks_in l.out) b st
    → Represents l.t (out_state st new old b l.k x))
