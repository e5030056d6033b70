-- `calling::answer_call` meets its contract: 5 for a caller that is not listed, else the call is carried out.
use mathlib.Core.Path.{sym, ◌∙◌}
use Rattle.calls.specs.Rules.{refused}
use Rattle.calls.proofs.Carried.{runs_after}
use Rattle.entry.proofs.Answered.{refused-stays, unlisted-refused, listed-performed, caller-listed}
use Rattle.entry.proofs.calling.answer_call.Goals as goal

pub returns-then-is_unlisted : goal.returns-then-is_unlisted
unfolding refused
returns-then-is_unlisted c = λ st sd rep same.
    let e = sym (c.is_unlisted.ensures st same) ∙ c.if-is_unlisted.true in
    rw (unlisted-refused st _ e) (refused-stays _ _ st 5 c.requires.1 rep same, c.into.ensures)

pub returns : goal.returns
returns c = λ st sd rep same.
    let done = c.perform in
    let e = sym (c.is_unlisted.ensures st same) ∙ c.if-is_unlisted.false in
    rw (listed-performed st _ e) (runs_after _ _ _ _ done.ensures.long.1 (done.ensures.performs st sd rep same (caller-listed st _ e)))
