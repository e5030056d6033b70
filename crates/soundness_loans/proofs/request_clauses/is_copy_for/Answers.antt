-- `request_clauses::is_copy_for` meets its contract: the words of the row and its second source.
use mathlib.Core.Path.{refl, ap, ◌∙◌}
use Rattle.soundness_loans.specs.vocabulary.Clauses.{word_at}
use Rattle.soundness_loans.proofs.RequestClauses.{bears-word, via-word, copy-for}
use Rattle.soundness_loans.proofs.request_clauses.is_copy_for.Goals as goal

pub returns : goal.returns
returns c =
    λ st rep slot.
    let over = c.via_number-over in
    let bears = c.word_at-bears in
    let a = c.args in
    let t = a.t.now in
    copy-for rep a.v a.e _ _ bears.result over.result refl refl (bears.ensures ∙ ap (word_at t 9216) slot ∙ bears-word rep a.e)
    (over.ensures ∙ ap (λ s. word_at t 0 (word_at t 7168 s)) slot ∙ via-word rep a.e)
