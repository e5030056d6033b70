-- `request_clauses::may_be_listed` meets its contract: of no item nothing is asked.
use mathlib.Core.Path.{refl, ap, ◌∙◌}
use Rattle.rows.specs.Lists.{some}
use Rattle.soundness_loans.specs.vocabulary.Clauses.{word_at}
use Rattle.soundness_loans.proofs.RequestClauses.{kind-word, may-be-lent}
use Rattle.soundness_loans.proofs.request_clauses.may_be_listed.Goals as goal

pub returns-then-e-eq0 : goal.returns-then-e-eq0
unfolding some
returns-then-e-eq0 c = λ st rep slot. rw c.if-e-eq0.true refl

pub returns : goal.returns
returns c =
    λ st rep slot.
    let kind = c.word_at-kind in
    let copy = c.is_copy_for-copy in
    let a = c.args in
    rw c.is_end-end.ensures
    (may-be-lent rep a.v a.e _ kind.result copy.result c.if-e-eq0.false refl (kind.ensures ∙ ap (word_at a.t.now 1024) slot ∙ kind-word rep a.e)
    (copy.ensures st rep slot))
