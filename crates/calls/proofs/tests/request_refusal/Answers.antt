-- `tests::request_refusal`: one return a test.
use native.Mathlib.Omega.{arith}
use Rattle.calls.proofs.Asked.{no_rows, no-requests, no-numbers, has-space}
use Rattle.calls.proofs.tests.request_refusal.Goals as goal

pub returns-then-n-copies-gt-ROWS : goal.returns-then-n-copies-gt-ROWS
returns-then-n-copies-gt-ROWS c =
    let a = c.args in
    record { lowest = (λ st rows requests next. no_rows st a.n a.m a.next a.copies rows requests next c.if-n-copies-gt-ROWS.true); room = (λ z. absurd (omega arith)) }

pub returns-then-m-ge-REQUESTS : goal.returns-then-m-ge-REQUESTS
returns-then-m-ge-REQUESTS c =
    let a = c.args in
    record { lowest = (λ st rows requests next. no-requests st a.n a.m a.next a.copies rows requests next c.if-n-copies-gt-ROWS.false c.if-m-ge-REQUESTS.true); room = (λ z. absurd (omega arith)) }

pub returns-then-copies-next : goal.returns-then-copies-next
returns-then-copies-next c =
    let a = c.args in record {
      lowest = (λ st rows requests next.
          no-numbers st a.n a.m a.next a.copies rows requests next c.if-n-copies-gt-ROWS.false c.if-m-ge-REQUESTS.false (omega (arith, c.requires.2, c.if-copies-next.true)));
      room = (λ z. absurd (omega arith));
    }

pub returns : goal.returns
returns c =
    let a = c.args in record {
      lowest = (λ st rows requests next.
          has-space st a.n a.m a.next a.copies rows requests next c.if-n-copies-gt-ROWS.false c.if-m-ge-REQUESTS.false (omega (arith, c.requires.2, c.if-copies-next.false)));
      room = (λ z. (c.if-n-copies-gt-ROWS.false, c.if-m-ge-REQUESTS.false, omega (arith, c.requires.2, c.if-copies-next.false)));
    }
