-- `replies::put_chained` meets its contract: four values and four and four.
use Rattle.rows.specs.Lists.{bytes}
use Rattle.calls.specs.Answers.{num, refusal_of, numbers_of, values_of}
use Rattle.text.specs.Answers.{printed, ok_text}
use Rattle.text.specs.vocabulary.Replies.{numbers_text}
use Rattle.text.proofs.ReplyLaws.{puts_then, puts-as, three-listed}
use Rattle.text.proofs.replies.put_chained.Goals as goal

pub returns : goal.returns
unfolding printed refusal_of values_of numbers_of ok_text bytes
returns c =
    let a = c.args in
    let xs = numbers_of a.a in
    let ys = numbers_of a.b in
    let zs = numbers_of a.c in
    let last = puts_then (numbers_text zs) _ c.put_items-third.ensures.put c.put_text.ensures.put in
    let more = puts_then (numbers_text ys) _ c.put_items-second.ensures.put last in
    let values = puts_then (numbers_text xs) _ c.put_items-first.ensures.put more in
    puts_then _ _ c.put_text-begun.ensures.put (puts-as _ _ (three-listed num xs ys zs (bytes ")\n")) values)
