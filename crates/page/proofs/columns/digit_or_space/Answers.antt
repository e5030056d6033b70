-- `columns::digit_or_space` meets its contract.
use borrow.Author.Tests.{ne_eqb}
use mathlib.Core.Path.{refl}
use Rattle.page.specs.vocabulary.Columns.{digit_or_space}
use Rattle.page.proofs.columns.digit_or_space.Goals as goal

pub returns-then-left-eq0 : goal.returns-then-left-eq0
unfolding digit_or_space
returns-then-left-eq0 c = rw c.if-left-eq0.true refl

pub returns : goal.returns
unfolding digit_or_space
returns c = rw (ne_eqb _ 0 c.if-left-eq0.false) c.last_digit.ensures
