-- `performing::words_of` meets its contract: an arm an answer.
use mathlib.Core.Path.{ap, sym, ◌∙◌}
use Rattle.calls.specs.declared.Answer.TheVariants.{Told}
use Rattle.calls.specs.Answers.{four_of, numbers_of}
use Rattle.test_exports.specs.vocabulary.Calls.{words_of_answer}
use Rattle.test_exports.proofs.performing.words_of.Goals as goal

pub returns-in-Done : goal.returns-in-Done
unfolding words_of_answer
returns-in-Done c = sym (ap words_of_answer c.in-Done.is)

pub returns-in-Made : goal.returns-in-Made
unfolding words_of_answer
returns-in-Made c = sym (ap words_of_answer c.in-Made.is)

pub returns-in-Fetched : goal.returns-in-Fetched
unfolding words_of_answer four_of
returns-in-Fetched c = sym (ap words_of_answer c.in-Fetched.is)

pub returns-then-b : goal.returns-then-b
unfolding words_of_answer
returns-then-b c = sym (ap words_of_answer (c.in-Told.is ∙ ap Told c.if-b.true))

pub returns-else-b : goal.returns-else-b
unfolding words_of_answer
returns-else-b c = sym (ap words_of_answer (c.in-Told.is ∙ ap Told c.if-b.false))

pub returns-in-Chained : goal.returns-in-Chained
unfolding words_of_answer numbers_of
returns-in-Chained c = sym (ap words_of_answer c.in-Chained.is)

pub returns-in-ToldAll : goal.returns-in-ToldAll
unfolding words_of_answer
returns-in-ToldAll c = c.words_told.ensures ∙ sym (ap words_of_answer c.in-ToldAll.is)

pub returns-in-Refused : goal.returns-in-Refused
unfolding words_of_answer
returns-in-Refused c = sym (ap words_of_answer c.in-Refused.is)
