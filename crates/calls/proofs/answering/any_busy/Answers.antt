-- `answering::any_busy`: the items joined.
use borrow.Author.Rules.{rules}
use mathlib.Core.Path.{◌∙◌}
use mathlib.Core.Bool.{◌&&◌}
use Rattle.std.proofs.lemmas.Iterator.{YieldsList-from_slice}
use Rattle.std.proofs.lemmas.Iterator.Search.{any_from_yields_List}
use Rattle.rows.specs.Tables.{row_of}
use Rattle.calls.specs.Rules.{has_open}
use Rattle.calls.specs.vocabulary.Answering.{end_item}
use Rattle.calls.proofs.LentEnds.{any-lent}
use Rattle.calls.proofs.answering.any_busy.Goals as goal

pub returns : goal.returns
returns c =
    let v = c.args.v in
    λ st h.
    any_from_yields_List (λ e. end_item st e && has_open st (row_of st.rows e).object) _ _ _ c.any.ensures.ran
    (YieldsList-from_slice v.items cc) (λ x b q k. search (rules, h))
    ∙ any-lent st v (λ e. has_open st (row_of st.rows e).object)
