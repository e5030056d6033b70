-- What is told of four pairs, one after the other.
use native.Mathlib.Omega.{arith}
use Rattle.calls.specs.Answers.{numbers_of, told_value}
use Rattle.text.proofs.ReplyLaws.{puts_then, four-listed}
use Rattle.text.proofs.replies.put_four.Goals as goal

pub returns : goal.returns
unfolding numbers_of
returns c =
    let f = c.args.f in
    let last-two = puts_then _ _ c.put_told-third.ensures.put c.put_told.ensures.put in
    let last-three = puts_then _ _ c.put_told-second.ensures.put last-two in
    record { put = rw (four-listed told_value f.first f.second f.third f.fourth) (puts_then _ _ c.put_told-first.ensures.put last-three); grown = omega arith }
