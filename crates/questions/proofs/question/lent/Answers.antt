-- `question::lent` meets its contract: a row that has no source says it itself; for others the row question is asked with 0, twelve steps back.
use mathlib.Core.Path.{sym, ◌∙◌}
use Rattle.questions.proofs.Questions.{lent-first, lent-answer}
use Rattle.questions.proofs.question.lent.Goals as goal

pub returns-then-has_no_source : goal.returns-then-has_no_source
returns-then-has_no_source c =
    let a = c.args in
    let no_source = sym c.has_no_source.ensures ∙ c.if-has_no_source.true in
    λ st n so rep at. lent-first a.t.now a.e st n so rep at no_source c.touched.result c.touched.ensures

pub returns : goal.returns
returns c =
    let a = c.args in
    λ st n so rep at. lent-answer a.t.now a.e st n so rep at c.row_question.result c.row_question.ensures
