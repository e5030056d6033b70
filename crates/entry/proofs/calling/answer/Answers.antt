-- `calling::answer` meets its contract: a call, an ask with too many items, or a refusal of the text.
use mathlib.Core.Path.{refl}
use Rattle.calls.specs.Rules.{refused}
use Rattle.text.specs.declared.Reading.TheVariants.{Crowded}
use Rattle.text.specs.Entry.{answered}
use Rattle.entry.proofs.Answered.{state-stays, refused-stays}
use Rattle.entry.proofs.calling.answer.Goals as goal

pub answer_call-requires : goal.answer_call-requires
answer_call-requires c =
    (c.requires.0, c.requires.1, c.requires.2 _ c.in-Asks.is)

pub returns-in-Asks : goal.returns-in-Asks
returns-in-Asks c = λ st sd rep same.
    rw c.in-Asks.is (c.answer_call.ensures st sd rep same)

pub returns-in-Crowded : goal.returns-in-Crowded
returns-in-Crowded c = λ st sd rep same.
    let (after, is) = c.crowded.ensures st same in
    rw c.in-Crowded.is
    (state-stays _ _ st (answered st (Crowded c.in-Crowded.caller)) after c.requires.1 rep same, is)

pub returns-in-Refused : goal.returns-in-Refused
unfolding answered refused
returns-in-Refused c = λ st sd rep same.
    rw c.in-Refused.is (refused-stays _ _ st c.in-Refused.k c.requires.1 rep same, refl)
