-- `tests::lent_word`: no row, or the row in the slot before the word.
use Prim.Native.Nat.{suc, ◌-◌}
use native.Mathlib.Omega.{arith}
use mathlib.Core.Path.{◌≡◌, ◌∙◌}
use Rattle.calls.proofs.LookedUp.{lent_none, lent_row}
use Rattle.calls.proofs.tests.lent_word.Goals as goal

pub returns-then-w-eq0 : goal.returns-then-w-eq0
returns-then-w-eq0 c = λ st x sd rep at. lent_none st x sd (at ∙ c.if-w-eq0.true)

pub returns : goal.returns
returns c =
    let w = c.args.w in
    λ st x sd rep at.
    let next : w ≡ suc (w - 1) = omega (arith, c.if-w-eq0.false) in
    c.lent.ensures st x sd rep (at ∙ next) ∙ lent_row st x sd (w - 1) (at ∙ next)
