-- What is told of four times four pairs, one after the other.
use native.Mathlib.Omega.{arith}
use Rattle.calls.specs.Answers.{numbers_of, all_of, told_value}
use Rattle.text.proofs.ReplyLaws.{puts_then, four-lists}
use Rattle.text.proofs.replies.put_sixteen.Goals as goal

pub returns : goal.returns
unfolding all_of
returns c =
    let s = c.args.s in
    let last-two = puts_then _ _ c.put_four-third.ensures.put c.put_four.ensures.put in
    let last-three = puts_then _ _ c.put_four-second.ensures.put last-two in
    let parts = four-lists told_value (numbers_of s.first) (numbers_of s.second) (numbers_of s.third) (numbers_of s.fourth) in
    record { put = rw parts (puts_then _ _ c.put_four-first.ensures.put last-three); grown = omega arith }
