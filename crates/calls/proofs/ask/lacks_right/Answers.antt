-- `ask::lacks_right`: no item, or the tests of its row.
use mathlib.Core.Path.{refl}
use Rattle.rows.proofs.Slots.{represented-well, row-words}
use Rattle.calls.specs.Loans.{item_row}
use Rattle.calls.proofs.LentEnds.{and_both, and_first}
use Rattle.calls.proofs.Asked.{no_item, an_item, copied-test, slot_of, lacks-read}
use Rattle.calls.proofs.ask.lacks_right.Goals as goal

pub returns-then-x-eq0 : goal.returns-then-x-eq0
returns-then-x-eq0 c =
    let x = c.args.x in
    λ st p rep h. and_first _ (no_item st p x h c.if-x-eq0.true)

pub returns : goal.returns
unfolding item_row
returns c =
    let left = c.if-x-eq0.false in
    let x = c.args.x in
    λ st p rep h.
    let named = an_item st p x h (represented-well rep).rows-rise left in
    let rights = (row-words rep x.item.row _ (slot_of st p x h left)).rights in
    and_both named (lacks-read st x.item _ rights (copied-test st p x h named) (c.contains.ensures.transfer refl) c.within.ensures)
