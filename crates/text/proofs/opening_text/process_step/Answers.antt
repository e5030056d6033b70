-- `opening_text::process_step` meets its contract.
use mathlib.Core.Path.{refl, sym}
use Rattle.std.proofs.lemmas.Result.{err_from_is_err_and}
use Rattle.text.specs.Opening.{process_form}
use Rattle.text.proofs.PassLaws.{form-goes, form-stops}
use Rattle.text.proofs.opening_text.process_step.Goals as goal

pub returns-in_err-process_refusal : goal.returns-in_err-process_refusal
returns-in_err-process_refusal c =
    let a = c.args in
    let no = c.in_err-process_refusal in
    let p = err_from_is_err_and c.from_residual.result c.from_residual.ensures.1 in
    λ fs k. rw (p.1, p.2) (form-stops fs (process_form a.p a.n) _ (no.ensures.refused fs k))

pub with_process-requires : goal.with_process-requires
with_process-requires c = c.in_ok-process_refusal.ensures.within refl

pub returns : goal.returns
returns c =
    let a = c.args in
    λ fs k. form-goes fs (process_form a.p a.n) c.with_process.result (sym (c.in_ok-process_refusal.ensures.refused fs k)) (c.with_process.ensures fs k)
