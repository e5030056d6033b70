-- `ask::copies_of`: one item after the other.
use borrow.Author.Rules.{rules}
use native.Mathlib.Omega.{arith}
use mathlib.Core.Path.{◌≡◌}
use lib.ListN.{length}
use Rattle.std.proofs.lemmas.List.Elements.{All-get_or}
use Rattle.calls.specs.vocabulary.Asks.{no_item_row, ItemFits}
use Rattle.calls.proofs.Asked.{copies-from, copies-end}
use Rattle.calls.proofs.ask.copies_of.Goals as goal

pub loop-x-init : goal.loop-x-init
loop-x-init c = (omega arith, omega arith)

pub overflow_add-copies : goal.overflow_add-copies
overflow_add-copies c =
    let xs = c.args.items in
    let l = c.loop-x in
    let four : length xs ≡ 4 = search rules in
    let fits = All-get_or (ItemFits 1024) xs l.x-index no_item_row (omega arith) c.requires in
    record { fits = omega (arith, l.invariant.0, fits.1) }

pub loop-x-preserved : goal.loop-x-preserved
loop-x-preserved c =
    let xs = c.args.items in
    let l = c.loop-x in
    let four : length xs ≡ 4 = search rules in
    let fits = All-get_or (ItemFits 1024) xs l.x-index no_item_row (omega arith) c.requires in
    (omega (arith, l.invariant.0, fits.1), omega (arith, l.invariant.1, copies-from xs l.x-index no_item_row (omega arith)))

pub returns : goal.returns
returns c =
    let xs = c.args.items in
    let l = c.loop-x in
    let four : length xs ≡ 4 = search rules in
    record { few = omega (arith, l.invariant.0); counted = omega (arith, l.invariant.1, copies-end xs l.x-index (omega arith)) }
