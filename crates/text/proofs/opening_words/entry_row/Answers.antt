-- `opening_words::entry_row` meets its contract.
use borrow.Author.Rules.{rules}
use Rattle.rows.specs.Codes.{in_node}
use Rattle.text.specs.Opening.{entry_row}
use Rattle.text.proofs.opening_words.entry_row.Goals as goal

pub returns : goal.returns
unfolding entry_row in_node
returns c = search rules
