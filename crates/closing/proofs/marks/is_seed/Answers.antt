-- `marks::is_seed`: one case for each kind of seed, by the words of the slot.
use mathlib.Core.Bool.{Bool, ◌&&◌}
use mathlib.Core.Path.{ap, ◌∙◌}
use Prim.Native.Nat.{◌+◌}
use lib.Dec.{eqb}
use lib.ListN.{get_or}
use Rattle.closing.proofs.MarksRows.{OBJECT, seed-bearing, seed-end, seed-row}
use Rattle.closing.proofs.marks.is_seed.Goals as goal

pub returns-in-Bearing : goal.returns-in-Bearing
returns-in-Bearing c =
    let a = c.args in
    seed-bearing a.t.now a.i a.s c.in-Bearing.q c.in-Bearing.is

pub returns-in-EndsOf : goal.returns-in-EndsOf
returns-in-EndsOf c =
    let a = c.args in
    let port = c.in-EndsOf.c in
    ap (λ (b : Bool). b && eqb (get_or a.t.now (OBJECT + a.i) 0) port) c.is_end.ensures
    ∙ seed-end a.t.now a.i a.s port c.in-EndsOf.is

pub returns-in-Only : goal.returns-in-Only
returns-in-Only c =
    let a = c.args in
    seed-row a.t.now a.i a.s c.in-Only.e c.in-Only.is
