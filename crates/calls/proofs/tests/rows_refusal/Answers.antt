-- `tests::rows_refusal`: one return a test.
use native.Mathlib.Omega.{arith}
use Rattle.calls.proofs.Refusing.{too-deep, rows-full, numbers-spent, has_room}
use Rattle.calls.proofs.tests.rows_refusal.Goals as goal

pub returns-then-d-gt-GREATEST_DEPTH : goal.returns-then-d-gt-GREATEST_DEPTH
returns-then-d-gt-GREATEST_DEPTH c =
    let a = c.args in
    record { lowest = (λ st count next. too-deep st a.n a.next a.d a.k count next c.if-d-gt-GREATEST_DEPTH.true); room = (λ z. absurd (omega arith)) }

pub returns-then-n-k-gt-ROWS : goal.returns-then-n-k-gt-ROWS
returns-then-n-k-gt-ROWS c =
    let a = c.args in
    record { lowest = (λ st count next. rows-full st a.n a.next a.d a.k count next c.if-d-gt-GREATEST_DEPTH.false c.if-n-k-gt-ROWS.true); room = (λ z. absurd (omega arith)) }

pub returns-then-k-next : goal.returns-then-k-next
returns-then-k-next c =
    let a = c.args in record { lowest = (λ st count next. numbers-spent st a.n a.next a.d a.k count next c.if-d-gt-GREATEST_DEPTH.false c.if-n-k-gt-ROWS.false (omega (arith, c.requires.1, c.if-k-next.true))); room = (λ z. absurd (omega arith)) }

pub returns : goal.returns
returns c =
    let a = c.args in record { lowest = (λ st count next. has_room st a.n a.next a.d a.k count next c.if-d-gt-GREATEST_DEPTH.false c.if-n-k-gt-ROWS.false (omega (arith, c.requires.1, c.if-k-next.false))); room = (λ z. (c.if-n-k-gt-ROWS.false, omega (arith, c.requires.1, c.if-k-next.false))) }
