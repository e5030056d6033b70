-- `patterns::is_digit` meets its contract: the arms are the range.
use native.Mathlib.Omega.{arith}
use mathlib.Core.Path.{sym}
use Rattle.text.specs.Patterns.{is_digit}
use Rattle.text.proofs.PatternLaws.{within, under, over}
use Rattle.text.proofs.patterns.is_digit.Goals as goal

pub returns-in-48-to-57 : goal.returns-in-48-to-57
unfolding is_digit
returns-in-48-to-57 c = sym (within 48 57 c.args.b (omega arith) (omega arith))

pub returns-in_default : goal.returns-in_default
unfolding is_digit
returns-in_default c = sym (under 48 57 c.args.b (omega arith))

pub returns-in_default-2 : goal.returns-in_default-2
unfolding is_digit
returns-in_default-2 c = sym (over 48 57 c.args.b (omega arith) (omega arith))
