-- `answering::any_away`: the items joined.
use borrow.Author.Rules.{rules}
use mathlib.Core.Path.{◌∙◌}
use mathlib.Core.Bool.{◌&&◌}
use Rattle.std.proofs.lemmas.Iterator.{YieldsList-from_slice}
use Rattle.std.proofs.lemmas.Iterator.Search.{any_from_yields_List}
use Rattle.calls.specs.Calls.{is_away}
use Rattle.calls.specs.vocabulary.Answering.{end_item}
use Rattle.calls.proofs.LentEnds.{any-lent}
use Rattle.calls.proofs.answering.any_away.Goals as goal

pub returns : goal.returns
returns c =
    let v = c.args.v in
    λ st h few.
    any_from_yields_List (λ e. end_item st e && is_away st c.args.p v e) _ _ _ c.any.ensures.ran
    (YieldsList-from_slice v.items cc) (λ x b q k. search (rules, h, few))
    ∙ any-lent st v (is_away st c.args.p v)
