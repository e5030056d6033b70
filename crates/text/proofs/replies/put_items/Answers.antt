-- `replies::put_items` meets its contract: the items one after the other.
use native.Mathlib.Omega.{arith}
use Rattle.calls.specs.Answers.{num}
use Rattle.text.proofs.ReplyLaws.{puts_then, four-listed}
use Rattle.text.proofs.replies.put_items.Goals as goal

pub returns : goal.returns
returns c =
    let a = c.args in
    let last-two = puts_then _ _ c.put_listed-third.ensures.put c.put_listed.ensures.put in
    let last-three = puts_then _ _ c.put_listed-second.ensures.put last-two in
    let all-four = puts_then _ _ c.put_listed-first.ensures.put last-three in
    record { put = rw (four-listed num a.a a.b a.c a.d) all-four; grown = omega arith }
