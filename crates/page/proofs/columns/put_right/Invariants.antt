-- `columns::put_right` meets its contract: the columns written and those before them are the number's.
use Prim.Native.Nat.{◌<◌}
use mathlib.Core.List.{◌++◌}
use mathlib.Core.Path.{◌≡◌}
use lib.ListN.{length, drop}
use Rattle.text.specs.Answers.{digits_of}
use Rattle.page.specs.Page.{right_in}
use Rattle.page.proofs.ColumnLaws.{before}
use Rattle.page.proofs.columns.put_right.Given as goal

abbrev pub invariant-loop-i : goal.invariant-loop-i
invariant-loop-i l = (length l.columns ≡ length l.initial.columns) × (l.i < length l.initial.columns) × (before l.i l.left ++ drop l.i l.columns ≡ right_in (length l.initial.columns) (digits_of l.n))
