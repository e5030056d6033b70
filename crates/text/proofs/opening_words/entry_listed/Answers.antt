-- `opening_words::entry_listed` meets its contract.
use mathlib.Core.Path.{◌∙◌}
use borrow.Author.Tests.{ne_eqb}
use Rattle.rows.specs.Codes.{is_operation, operation}
use Rattle.text.specs.Opening.{entry_listed}
use Rattle.text.proofs.opening_words.entry_listed.Goals as goal

pub returns-then-e-eq-AN_OPERATION : goal.returns-then-e-eq-AN_OPERATION
unfolding entry_listed is_operation operation
returns-then-e-eq-AN_OPERATION c =
    let a = c.args in
    λ fs k. rw c.if-e-eq-AN_OPERATION.true (c.is_given.ensures ∙ k.process a.e.object)

pub returns : goal.returns
unfolding entry_listed is_operation operation
returns c =
    let a = c.args in
    λ fs k. rw (ne_eqb a.e.kind 1 c.if-e-eq-AN_OPERATION.false) (c.is_given-2.ensures ∙ k.node a.e.object)
