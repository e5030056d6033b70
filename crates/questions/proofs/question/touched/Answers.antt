-- `question::touched` meets its contract: the words of the slot are those of the row.
use mathlib.Core.Path.{sym, ◌∙◌}
use Rattle.questions.proofs.Questions.{touched-bears, touched-bearing, touched-loan, touched-other}
use Rattle.questions.proofs.question.touched.Goals as goal

pub returns-then-q-ne0 : goal.returns-then-q-ne0
returns-then-q-ne0 c = let a = c.args in touched-bears a.t.now a.i a.q c.if-q-ne0.true

pub returns-then-borne-ne0 : goal.returns-then-borne-ne0
returns-then-borne-ne0 c =
    let a = c.args in
    touched-bearing a.t.now a.i a.q c.if-q-ne0.false c.if-borne-ne0.true

pub returns-then-is_end : goal.returns-then-is_end
returns-then-is_end c =
    let a = c.args in
    let is-end = sym c.is_end.ensures ∙ c.if-is_end.true in
    touched-loan a.t.now a.i a.q _ c.if-q-ne0.false c.if-borne-ne0.false is-end c.on_loan.ensures

pub returns : goal.returns
returns c =
    let a = c.args in
    touched-other a.t.now a.i a.q c.if-q-ne0.false c.if-borne-ne0.false (sym c.is_end.ensures ∙ c.if-is_end.false)
