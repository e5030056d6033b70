-- `replies::put_listed` meets its contract.
use native.Mathlib.Omega.{arith}
use Rattle.rows.proofs.Bools.{pos-some}
use Rattle.rows.specs.Lists.{nonzero, filter, some}
use Rattle.text.specs.Answers.{spaced}
use Rattle.text.proofs.ReplyLaws.{puts_none}
use Rattle.text.proofs.replies.put_listed.Goals as goal

pub returns-then-n-eq0 : goal.returns-then-n-eq0
unfolding nonzero filter some spaced
returns-then-n-eq0 c =
    let a = c.args in
    record { put = rw c.if-n-eq0.true (puts_none a.o.now a.at); grown = omega arith }

pub returns : goal.returns
unfolding nonzero filter
returns c =
    let n = c.args.n in
    record { put = rw (pos-some n (omega arith)) c.put_value.ensures.put; grown = omega arith }
