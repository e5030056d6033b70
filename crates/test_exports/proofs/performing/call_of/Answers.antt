-- `performing::call_of` meets its contract: an arm a code.
use borrow.Author.Tests.{ne_eqb}
use Rattle.test_exports.specs.vocabulary.Calls.{call_of_code}
use Rattle.test_exports.proofs.performing.call_of.Goals as goal

pub returns-in-0 : goal.returns-in-0
unfolding call_of_code
returns-in-0 c = rw c.in-0.is

pub returns-in-1 : goal.returns-in-1
unfolding call_of_code
returns-in-1 c = rw c.in-1.is

pub returns-in-2 : goal.returns-in-2
unfolding call_of_code
returns-in-2 c = rw c.in-2.is

pub returns-in-3 : goal.returns-in-3
unfolding call_of_code
returns-in-3 c = rw c.in-3.is

pub returns-in-4 : goal.returns-in-4
unfolding call_of_code
returns-in-4 c = rw c.in-4.is

pub returns-in-5 : goal.returns-in-5
unfolding call_of_code
returns-in-5 c = rw c.in-5.is

pub returns-in-6 : goal.returns-in-6
unfolding call_of_code
returns-in-6 c = rw (c.items_of.ensures, c.in-6.is)

pub returns-in-7 : goal.returns-in-7
unfolding call_of_code
returns-in-7 c = rw c.in-7.is

pub returns-in-8 : goal.returns-in-8
unfolding call_of_code
returns-in-8 c = rw c.in-8.is

pub returns-in-9 : goal.returns-in-9
unfolding call_of_code
returns-in-9 c = rw c.in-9.is

pub returns-in-10 : goal.returns-in-10
unfolding call_of_code
returns-in-10 c = rw c.in-10.is

pub returns-in-11 : goal.returns-in-11
unfolding call_of_code
returns-in-11 c = rw c.in-11.is

pub returns-in_default : goal.returns-in_default
unfolding call_of_code
returns-in_default c =
    let r = c.in_default.in_default-own.rest.0 in
    let r4 = r.0.0.0.0.0 in
    rw (
      c.sixteen_at.ensures,
      c.sixteen_at-in_default.ensures,
      ne_eqb _ 0 r4.0.0.0.0.0.1,
      ne_eqb _ 1 r4.0.0.0.0.1,
      ne_eqb _ 2 r4.0.0.0.1,
      ne_eqb _ 3 r4.0.0.1,
      ne_eqb _ 4 r4.0.1,
      ne_eqb _ 5 r4.1,
      ne_eqb _ 6 r.0.0.0.0.1,
      ne_eqb _ 7 r.0.0.0.1,
      ne_eqb _ 8 r.0.0.1,
      ne_eqb _ 9 r.0.1,
      ne_eqb _ 10 r.1,
      ne_eqb _ 11 c.in_default.in_default-own.rest.1,
    )
