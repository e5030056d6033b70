-- `homes::home`: of the three returns, the first has no row, the second a removed one, the third one that stays.
use borrow.Author.Tests.{ne_eqb}
use mathlib.Core.Bool.{true, false}
use mathlib.Core.Path.{sym, ◌∙◌}
use Rattle.rows.proofs.Bools.{not-zero}
use Rattle.closing.proofs.HomesAll.{homed-none, homed-told}
use Rattle.closing.proofs.homes.home.Goals as goal

pub returns-then-x-eq0 : goal.returns-then-x-eq0
returns-then-x-eq0 c = λ st g rep count gone there. homed-none g c.args.x c.if-x-eq0.true

pub returns-then-is_marked : goal.returns-then-is_marked
returns-then-is_marked c =
    let x = c.args.x in
    let sm = not-zero x.through (ne_eqb x.through 0 c.if-x-eq0.false) in
    λ st g rep count gone there. homed-told g x true sm (sym (c.is_marked.ensures st g rep count gone (there sm)) ∙ c.if-is_marked.true)

pub returns : goal.returns
returns c =
    let x = c.args.x in
    let sm = not-zero x.through (ne_eqb x.through 0 c.if-x-eq0.false) in
    λ st g rep count gone there. homed-told g x false sm (sym (c.is_marked.ensures st g rep count gone (there sm)) ∙ c.if-is_marked.false)
