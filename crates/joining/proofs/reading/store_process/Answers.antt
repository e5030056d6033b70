-- `reading::store_process` meets its contract.
use borrow.Author.Rules.{rules}
use Rattle.joining.proofs.StoredForms.{process-small, process-held}
use Rattle.joining.proofs.reading.store_process.Goals as goal

pub bounds-words-p : goal.bounds-words-p
bounds-words-p c =
    let t = c.requires in
    let small = process-small c.args.words.now c.args.p c.args.n t.forms t.held t.taken in
    let long = t.held.long in
    search rules

pub returns : goal.returns
returns c = λ fs h taken. process-held c.args.words.now c.args.p c.args.n fs h taken
