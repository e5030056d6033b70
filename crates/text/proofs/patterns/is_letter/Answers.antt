-- `patterns::is_letter` meets its contract: the arms are the range.
use native.Mathlib.Omega.{arith}
use mathlib.Core.Path.{sym}
use Rattle.text.specs.Patterns.{is_letter}
use Rattle.text.proofs.PatternLaws.{within, under, over}
use Rattle.text.proofs.patterns.is_letter.Goals as goal

pub returns-in-97-to-122 : goal.returns-in-97-to-122
unfolding is_letter
returns-in-97-to-122 c = sym (within 97 122 c.args.b (omega arith) (omega arith))

pub returns-in_default : goal.returns-in_default
unfolding is_letter
returns-in_default c = sym (under 97 122 c.args.b (omega arith))

pub returns-in_default-2 : goal.returns-in_default-2
unfolding is_letter
returns-in_default-2 c = sym (over 97 122 c.args.b (omega arith) (omega arith))
