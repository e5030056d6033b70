-- `calling::call` meets its contract: 1 for words that are no sound tables, else what the line is answered.
use mathlib.Core.Path.{sym, ◌∙◌}
use Rattle.text.proofs.Readings.{reading-in-range}
use Rattle.entry.proofs.Entered.{sound-lengths, replies-one, replies-answer}
use Rattle.entry.proofs.calling.call.Goals as goal

pub returns-then-not-sound : goal.returns-then-not-sound
returns-then-not-sound c =
    replies-one _ _ _ _ (sym c.sound.ensures ∙ c.if-not-sound.true) (rw c.into.ensures at c.print.ensures)

pub answer-answered-requires : goal.answer-answered-requires
answer-answered-requires c =
    let (tables, records) = sound-lengths _ _ (sym c.sound.ensures ∙ c.if-not-sound.false) in
    (tables, records, λ x e. reading-in-range _ x (sym c.read_call-reading.ensures ∙ e))

pub returns : goal.returns
returns c =
    let yes = sym c.sound.ensures ∙ c.if-not-sound.false in
    let a = c.answer-answered in
    let read = c.read_call-reading in
    replies-answer _ _ _ _ _ _ _ yes (λ st sd rep same. rw (sym read.ensures) (a.ensures st sd rep same)) c.print-2.ensures
