-- Each code has its text.
use native.Mathlib.Omega.{arith}
use borrow.Author.Tests.{ne_eqb}
use Rattle.rows.proofs.Bools.{pos-some}
use Rattle.rows.specs.Lists.{nonzero, filter, some, bytes}
use Rattle.calls.specs.Answers.{told_no, told_yes, told_value}
use Rattle.text.specs.Answers.{spaced, value_text, digits_of, decimal}
use Rattle.text.proofs.ReplyLaws.{puts_none}
use Rattle.text.proofs.replies.put_told.Goals as goal

pub returns-in-0 : goal.returns-in-0
unfolding nonzero filter some spaced value_text digits_of decimal told_value told_no told_yes bytes
returns-in-0 c =
    let a = c.args in
    record { put = rw c.in-0.is (puts_none a.o.now a.at); grown = omega arith }

pub returns-in-1 : goal.returns-in-1
unfolding nonzero filter some spaced value_text digits_of decimal told_value told_no told_yes bytes
returns-in-1 c = record { put = rw c.in-1.is c.put_text.ensures.put; grown = omega arith }

pub returns-in-2 : goal.returns-in-2
unfolding nonzero filter some spaced value_text digits_of decimal told_value told_no told_yes bytes
returns-in-2 c = record { put = rw c.in-2.is c.put_text-in-2.ensures.put; grown = omega arith }

pub returns-in_default : goal.returns-in_default
unfolding nonzero filter spaced value_text told_value told_no told_yes bytes
returns-in_default c =
    let other = c.in_default.in_default-own.rest in
    let n = c.args.c in
    record { put = rw (pos-some n (omega (arith, other.0.0.1)), ne_eqb n 1 other.0.1, ne_eqb n 2 other.1) c.put_text-in_default.ensures.put; grown = omega arith }
