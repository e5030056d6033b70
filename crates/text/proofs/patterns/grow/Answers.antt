-- `patterns::grow` meets its contract: what is above the greatest number that is read is one and the same.
use Prim.Native.Nat.{◌*◌, ◌+◌, ◌-◌, ◌≤◌, ◌<◌}
use native.Mathlib.Omega.{arith}
use borrow.Author.Tests.{le-leb, lt-leb}
use Rattle.rows.specs.Limits.{greatest_number}
use Rattle.text.specs.Patterns.{grown_to, grown}
use Rattle.text.specs.vocabulary.Sizes.{GREATEST-READ}
use Rattle.text.proofs.patterns.grow.Goals as goal

pub returns-then-n-le-GREATEST_READ : goal.returns-then-n-le-GREATEST_READ
unfolding grown grown_to greatest_number
returns-then-n-le-GREATEST_READ c =
    let a = c.args in
    let e : a.v * 10 + (a.b - 48) ≤ GREATEST-READ = omega arith in
    record { worth = rw (le-leb _ _ e, c.from.ensures); most = omega arith }

pub returns : goal.returns
unfolding grown grown_to greatest_number
returns c =
    let a = c.args in
    let e : GREATEST-READ < a.v * 10 + (a.b - 48) = omega arith in
    record { worth = rw (lt-leb _ _ e); most = omega arith }
