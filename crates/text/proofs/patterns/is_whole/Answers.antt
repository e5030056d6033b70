-- `patterns::is_whole` meets its contract.
use borrow.Author.Rules.{rules}
use Rattle.text.specs.Patterns.{whole}
use Rattle.text.proofs.patterns.is_whole.Goals as goal

pub returns : goal.returns
unfolding whole
returns c = search rules
