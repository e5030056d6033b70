-- `reading::store_node` meets its contract: its entries, and that it is given.
use borrow.Author.Rules.{rules}
use Prim.Native.Nat.{◌*◌}
use native.Mathlib.Omega.{arith}
use lib.ListN.{length-set}
use Rattle.joining.proofs.StoredForms.{node-takes, node-held}
use Rattle.joining.proofs.reading.store_node.Goals as goal

pub overflow_mul-at : goal.overflow_mul-at
overflow_mul-at c =
    let t = c.requires in
    let small = (node-takes c.args.line.now c.args.n c.args.from t.forms t.taken).0 in
    search rules

pub store_entries-count-requires : goal.store_entries-count-requires
store_entries-count-requires c =
    let t = c.requires in
    let fits = node-takes c.args.line.now c.args.n c.args.from t.forms t.taken in
    (omega (arith, fits.0, t.held.long), fits.1)

pub bounds-words-at : goal.bounds-words-at
bounds-words-at c =
    let t = c.requires in
    let small = (node-takes c.args.line.now c.args.n c.args.from t.forms t.taken).0 in
    let long = t.held.long in
    search rules

pub overflow_cast-words : goal.overflow_cast-words
overflow_cast-words c =
    let t = c.requires in
    let few = (node-takes c.args.line.now c.args.n c.args.from t.forms t.taken).1.0 in
    let count = c.store_entries-count.ensures.0 in
    search rules

pub bounds-words-at-2 : goal.bounds-words-at-2
bounds-words-at-2 c =
    let t = c.requires in
    let small = (node-takes c.args.line.now c.args.n c.args.from t.forms t.taken).0 in
    omega (arith, small, t.held.long, length-set c.store_entries-count.new.words (18 * c.args.n) 1, c.words-1.given)

pub returns : goal.returns
returns c =
    let a = c.args in
    let stored = c.store_entries-count in
    λ fs h taken. node-held a.words.now a.line.now _ a.n a.from stored.result fs h taken stored.ensures
