-- `ask::item_busy`: no item, a copy, or the port of the end.
use native.Mathlib.Omega.{arith}
use mathlib.Core.Path.{◌≡◌, sym}
use Rattle.rows.specs.Lists.{some}
use Rattle.rows.proofs.Bools.{and-rf}
use Rattle.rows.proofs.Slots.{represented-well, row-words}
use Rattle.calls.specs.Calls.{is_busy}
use Rattle.calls.specs.Loans.{item_row}
use Rattle.calls.proofs.LentEnds.{and_both, and_first}
use Rattle.calls.proofs.Asked.{no_item, an_item, copy-stays, end-moves, slot_of, copy-free, busy-read}
use Rattle.calls.proofs.ask.item_busy.Goals as goal

pub returns-then-x-eq0 : goal.returns-then-x-eq0
returns-then-x-eq0 c =
    let x = c.args.x in
    λ st p rep h. and_first _ (no_item st p x h c.if-x-eq0.true)

pub returns-then-x-eq1 : goal.returns-then-x-eq1
returns-then-x-eq1 c =
    let a = c.args in
    let x = a.x in
    λ st p rep h.
    sym (and-rf (some x.item.row) (is_busy st a.c x.item) (copy-free st x.item a.c (copy-stays st p x h (λ z. absurd (omega (arith, c.if-x-eq1.true, z))))))

pub returns : goal.returns
unfolding item_row
returns c =
    let left = c.if-x-eq0.false in
    let a = c.args in
    let x = a.x in
    let none : x.copies ≡ 0 = omega (arith, c.requires.2.1, c.if-x-eq1.false) in
    λ st p rep h.
    let named = an_item st p x h (represented-well rep.0).rows-rise left in
    let object = (row-words rep.0 x.item.row _ (slot_of st p x h left)).object in
    and_both named (busy-read st x.item a.c _ object (end-moves st p x h named none) (c.has_open.ensures st rep))
