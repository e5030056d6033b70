-- `answers::refusal_text` meets its contract.
use mathlib.Core.Path.{sym, ap, ◌∙◌}
use Rattle.text.specs.vocabulary.Replies.{in_reply}
use Rattle.joining.specs.vocabulary.Answers.{refusal_text}
use Rattle.joining.proofs.answers.refusal_text.Goals as goal

pub returns-in-OfText : goal.returns-in-OfText
unfolding refusal_text
returns-in-OfText c = c.print_opening.ensures ∙ sym (ap (λ e. in_reply (refusal_text e)) c.in-OfText.is)

pub returns-in-OfBoth : goal.returns-in-OfBoth
unfolding refusal_text
returns-in-OfBoth c = c.print.ensures ∙ sym (ap (λ e. in_reply (refusal_text e)) c.in-OfBoth.is)
