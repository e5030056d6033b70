-- `merging::merge_node` meets its contract: the codes of both texts, or of the second alone.
use borrow.Author.Rules.{rules}
use mathlib.Core.Path.{sym, ap, ◌∙◌}
use Rattle.joining.specs.declared.Codes.{Codes}
use Rattle.joining.specs.vocabulary.Merged.{in_codes}
use Rattle.joining.proofs.MergedNodes.{merged-both, merged-second}
use Rattle.joining.proofs.merging.merge_node.Goals as goal

pub add_new-requires : goal.add_new-requires
unfolding in_codes
add_new-requires c =
    let count = ap (λ (x : Codes). x.count) c.copy_codes.ensures in
    (rw count (search rules), search rules)

pub returns-then-has_node : goal.returns-then-has_node
returns-then-has_node c =
    let own = c.codes_end-own.ensures in
    let end = c.codes_end-end.ensures in
    let given = c.has_node.ensures in
    λ fs gs ha hb.
    c.add_new.ensures _ c.copy_codes.ensures
    ∙ merged-both fs gs ha.passed hb.passed c.args.n _ _ (sym c.if-has_node.true ∙ given fs ha) (own.codes fs ha) (end.codes gs hb)

pub returns : goal.returns
returns c =
    let end = c.codes_end-end.ensures in
    let given = c.has_node.ensures in
    λ fs gs ha hb.
    c.copy_codes-2.ensures ∙ merged-second fs gs ha.passed hb.passed c.args.n _ (sym c.if-has_node.false ∙ given fs ha) (end.codes gs hb)
