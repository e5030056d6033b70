-- `columns::byte_or_space` meets its contract.
use borrow.Author.Tests.{lt-ltb, le-ltb}
use mathlib.Core.Path.{refl}
use Rattle.page.specs.vocabulary.Columns.{byte_or_space}
use Rattle.page.proofs.columns.byte_or_space.Goals as goal

pub returns-then-i-text : goal.returns-then-i-text
unfolding byte_or_space
returns-then-i-text c = rw (lt-ltb _ _ c.if-i-text.true) refl

pub returns : goal.returns
unfolding byte_or_space
returns c = rw (le-ltb _ _ c.if-i-text.false) refl
