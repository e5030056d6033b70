-- `marks::closes_first`: one case for each kind of seed.
use mathlib.Core.Logic.{⊎_elim}
use Rattle.closing.proofs.MarksRequests.{first-bearing, first-end, first-row}
use Rattle.closing.proofs.marks.closes_first.Goals as goal

pub returns-in-Bearing : goal.returns-in-Bearing
returns-in-Bearing c = first-bearing c.args.s c.args.number c.in-Bearing.q c.in-Bearing.is

pub returns-in-EndsOf : goal.returns-in-EndsOf
returns-in-EndsOf c =
    let a = c.args in ⊎_elim (λ x. first-end a.s a.number x.0 x.1) (λ x. first-row a.s a.number x.0 x.1) c.in-EndsOf.is
