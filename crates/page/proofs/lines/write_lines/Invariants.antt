-- `lines::write_lines` meets its contract: the lines written so far stand in front.
use Prim.Native.Nat.{◌*◌, ◌-◌, ◌≤◌}
use mathlib.Core.List.{◌++◌}
use mathlib.Core.Path.{◌≡◌}
use lib.ListN.{length, drop}
use Rattle.page.specs.Page.{lines_from}
use Rattle.page.specs.vocabulary.Columns.{LINE}
use Rattle.page.proofs.lines.write_lines.Given as goal

abbrev pub invariant-loop-i : goal.invariant-loop-i
invariant-loop-i l = (l.i - l.from ≤ l.rows - l.from) × (l.n ≡ LINE * (l.i - l.from)) × (length l.out ≡ length l.initial.out) × (l.n ≤ length l.initial.out)
    × (l.out ≡ lines_from l.t l.from (l.i - l.from) ++ drop l.n l.initial.out)
