-- `directories::codes_end` meets its contract: after so many codes as the node has entries.
use borrow.Author.Rules.{rules}
use Rattle.joining.proofs.HeldForms.{codes-few, codes-end}
use Rattle.joining.proofs.directories.codes_end.Goals as goal

pub overflow_cast-result : goal.overflow_cast-result
overflow_cast-result c =
    let few = codes-few c.args.words.now c.args.n c.requires.0 c.requires.1 in
    search rules

pub overflow_add-result-3 : goal.overflow_add-result-3
overflow_add-result-3 c =
    let few = codes-few c.args.words.now c.args.n c.requires.0 c.requires.1 in
    search rules

pub returns : goal.returns
returns c = codes-end c.args.words.now c.args.n c.requires.0 c.requires.1
