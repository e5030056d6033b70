-- `replies::put_accepted` meets its contract.
use Rattle.text.specs.Answers.{ok_text}
use Rattle.rows.specs.Lists.{bytes}
use Rattle.text.proofs.ReplyLaws.{puts_then}
use Rattle.text.proofs.replies.put_accepted.Goals as goal

pub returns : goal.returns
unfolding ok_text bytes
returns c =
    puts_then _ _ c.put_text-begun.ensures.put (puts_then _ _ c.put_value-valued.ensures.put c.put_text.ensures.put)
