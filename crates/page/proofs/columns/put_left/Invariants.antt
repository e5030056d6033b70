-- `columns::put_left` meets its contract: the columns written so far are the first of the text and its spaces.
use Prim.Native.Nat.{◌≤◌}
use mathlib.Core.List.{◌++◌}
use mathlib.Core.Path.{◌≡◌}
use lib.ListN.{length}
use lib.Seq.{paste}
use Rattle.page.specs.Page.{spaces}
use Rattle.page.proofs.columns.put_left.Given as goal

abbrev pub invariant-loop-i : goal.invariant-loop-i
invariant-loop-i l = (length l.columns ≡ length l.initial.columns) × (l.i ≤ length l.initial.columns) × (l.columns ≡ paste l.initial.columns 0 (l.text ++ spaces (length l.initial.columns)) l.i)
