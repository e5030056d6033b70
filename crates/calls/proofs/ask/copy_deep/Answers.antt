-- `ask::copy_deep`: nothing is copied, or the depth of the copy.
use native.Mathlib.Numerals.{add-one}
use mathlib.Core.Path.{ap, sym, ◌∙◌}
use Rattle.rows.specs.Limits.{greatest_depth}
use Rattle.calls.specs.Rules.{too_deep}
use Rattle.calls.specs.Loans.{copy_depth}
use Rattle.calls.proofs.LookedUp.{depth-most}
use Rattle.calls.proofs.LentEnds.{and_both, and_first}
use Rattle.calls.proofs.Asked.{word_of, no_copy, is-copy}
use Rattle.calls.proofs.ask.copy_deep.Goals as goal

pub returns-then-x-eq0 : goal.returns-then-x-eq0
returns-then-x-eq0 c =
    let x = c.args.x in
    λ st p port sd rep at h. and_first _ (no_copy st p x h c.if-x-eq0.true)

pub returns : goal.returns
unfolding too_deep greatest_depth copy_depth
returns c =
    let a = c.args in
    let x = a.x in
    λ st p port sd rep at h.
    let deep = c.depth_over.ensures st x.item.row port rep (word_of st p x h) (at ∙ sym (add-one a.i)) (depth-most st sd x.item.row) (depth-most st sd port) in
    and_both (is-copy st p x h c.if-x-eq0.false) (ap too_deep deep)
