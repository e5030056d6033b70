use borrow.Author.Rules.{rules}
use native.Mathlib.Omega.{arith}
use mathlib.Core.Path.{◌≡◌}
use Rattle.rows.specs.Layout.{requests_in}
use Rattle.questions.proofs.Listed.{listed-none, listed_more, listed-loan}
use Rattle.questions.proofs.question.on_loan.Goals as goal

pub loop-j-init : goal.loop-j-init
loop-j-init c = (search rules, listed-none _ _)

pub loop-j-preserved : goal.loop-j-preserved
loop-j-preserved c =
    (search rules, listed_more _ _ c.loop-j.j c.lists_item-found.result c.loop-j.found c.lists_item-found.ensures c.loop-j.invariant.1)

pub returns : goal.returns
returns c =
    let counted = c.requests_in-count.ensures.counted in
    let all-passed : c.loop-j.j ≡ requests_in c.args.t.now = omega arith in
    listed-loan _ _ c.loop-j.found (rw all-passed at c.loop-j.invariant.1)
