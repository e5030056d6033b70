-- `question::comes` meets its contract: the row says it itself, or the row question is asked, twelve steps back.
use mathlib.Core.Path.{sym, ◌∙◌}
use Rattle.questions.proofs.Questions.{comes-answer, comes-bearing, comes-first}
use Rattle.questions.proofs.question.comes.Goals as goal

pub returns-then-t-e : goal.returns-then-t-e
returns-then-t-e c =
    let a = c.args in
    λ st n so rep at pos. comes-bearing a.t.now a.e st n so rep at a.q pos c.if-t-e.true

pub returns-then-has_no_source : goal.returns-then-has_no_source
returns-then-has_no_source c =
    let a = c.args in
    λ st n so rep at pos.
    comes-first a.t.now a.e st n so rep at a.q pos c.if-t-e.false (sym c.has_no_source.ensures ∙ c.if-has_no_source.true)

pub returns : goal.returns
returns c =
    let a = c.args in
    λ st n so rep at pos. comes-answer a.t.now a.e st n so rep at a.q pos c.row_question.result c.row_question.ensures
