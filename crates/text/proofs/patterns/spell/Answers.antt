-- `patterns::spell` meets its contract: what is too long is one and the same.
use Prim.Native.Nat.{◌*◌, ◌+◌, ◌-◌, ◌<◌, ◌≤◌}
use native.Mathlib.Omega.{arith}
use borrow.Author.Tests.{lt-ltb, le-ltb}
use Rattle.text.specs.Patterns.{spelt}
use Rattle.text.proofs.patterns.spell.Goals as goal

pub returns-then-n-lt-LONG_WORD : goal.returns-then-n-lt-LONG_WORD
unfolding spelt
returns-then-n-lt-LONG_WORD c =
    let a = c.args in
    let e : a.v * 32 + (a.b - 96) < 1099511627776 = omega arith in
    record { worth = rw (lt-ltb _ _ e, c.from.ensures); most = omega arith }

pub returns : goal.returns
unfolding spelt
returns c =
    let a = c.args in
    let e : 1099511627776 ≤ a.v * 32 + (a.b - 96) = omega arith in
    record { worth = rw (le-ltb _ _ e); most = omega arith }
