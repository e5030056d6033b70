-- `replies::put_refusal` meets its contract.
use borrow.Author.Tests.{ne_eqb}
use Rattle.rows.specs.Lists.{bytes}
use Rattle.calls.specs.Answers.{refusal_of, values_of}
use Rattle.text.specs.Answers.{printed, ok_text, spaced, no_text}
use Rattle.text.proofs.ReplyLaws.{puts_then}
use Rattle.text.proofs.replies.put_refusal.Goals as goal

pub returns-then-k-eq0 : goal.returns-then-k-eq0
unfolding printed refusal_of values_of ok_text bytes spaced
returns-then-k-eq0 c = rw c.if-k-eq0.true c.put_text.ensures.put

pub returns : goal.returns
unfolding printed refusal_of no_text bytes
returns c =
    let put = puts_then _ _ c.put_text-begun.ensures.put (puts_then _ _ c.put_value-numbered.ensures.put c.put_text-2.ensures.put) in
    rw (ne_eqb c.args.k 0 c.if-k-eq0.false) put
