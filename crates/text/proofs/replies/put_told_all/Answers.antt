-- What is told of the pairs, between the brackets.
use Rattle.rows.specs.Lists.{bytes}
use Rattle.calls.specs.Answers.{refusal_of, values_of}
use Rattle.text.specs.Answers.{printed, ok_text}
use Rattle.text.proofs.ReplyLaws.{puts_then}
use Rattle.text.proofs.replies.put_told_all.Goals as goal

pub returns : goal.returns
unfolding printed refusal_of values_of ok_text bytes
returns c =
    puts_then _ _ c.put_text-begun.ensures.put (puts_then _ _ c.put_sixteen-told.ensures.put c.put_text.ensures.put)
