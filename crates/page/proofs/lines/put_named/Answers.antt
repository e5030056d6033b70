-- `lines::put_named` meets its contract: the name, then one digit or two over the spaces after it.
use native.Mathlib.Omega.{arith}
use Rattle.page.proofs.ColumnLaws.{named, one-digit, two_digits}
use Rattle.page.proofs.lines.put_named.Goals as goal

pub returns-then-n-lt10 : goal.returns-then-n-lt10
returns-then-n-lt10 c =
    let n = c.args.n in
    named c.args.name.now _ _ _ n 1 c.requires.columns c.requires.named.0 (one-digit n c.if-n-lt10.true) (omega arith)
    c.put_left.ensures
    c.put_right.ensures

pub returns-else-n-lt10 : goal.returns-else-n-lt10
returns-else-n-lt10 c =
    let n = c.args.n in
    named c.args.name.now _ _ _ n 2 c.requires.columns c.requires.named.0 (two_digits n c.if-n-lt10.false c.requires.named.1) (omega arith)
    c.put_left.ensures
    c.put_right-else-n-lt10.ensures
