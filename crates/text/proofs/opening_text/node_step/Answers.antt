-- `opening_text::node_step` meets its contract.
use mathlib.Core.Path.{refl, sym}
use Rattle.std.proofs.lemmas.Result.{err_from_is_err_and}
use Rattle.text.specs.Opening.{node_form}
use Rattle.text.proofs.PassLaws.{form-goes, form-stops}
use Rattle.text.proofs.opening_text.node_step.Goals as goal

pub returns-in_err-node_refusal : goal.returns-in_err-node_refusal
returns-in_err-node_refusal c =
    let a = c.args in
    let no = c.in_err-node_refusal in
    let p = err_from_is_err_and c.from_residual.result c.from_residual.ensures.1 in
    λ fs es k t. rw (p.1, p.2) (form-stops fs (node_form a.n es) _ (no.ensures.refused fs es k t))

pub with_node-requires : goal.with_node-requires
with_node-requires c = c.in_ok-node_refusal.ensures.within refl

pub returns : goal.returns
returns c =
    let a = c.args in
    λ fs es k t. form-goes fs (node_form a.n es) c.with_node.result (sym (c.in_ok-node_refusal.ensures.refused fs es k t)) (c.with_node.ensures fs es k)
