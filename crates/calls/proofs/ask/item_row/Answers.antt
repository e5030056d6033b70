-- `ask::item_row`: no item, a row that p does not hold, an end, a row that is copied.
use native.Mathlib.Omega.{arith}
use mathlib.Core.Bool.{Bool, not, cond}
use mathlib.Core.Path.{ap, sym, ◌∙◌}
use Rattle.rows.specs.Codes.{is_end, in_clist}
use Rattle.rows.proofs.Bools.{pos-some}
use Rattle.rows.proofs.Slots.{at-below, row-words}
use Rattle.calls.specs.Loans.{item_row, moves}
use Rattle.calls.specs.vocabulary.Asks.{LookedFits}
use Rattle.calls.proofs.LookedUp.{found_in}
use Rattle.calls.proofs.Judging.{not-in-clist}
use Rattle.calls.proofs.Refusing.{held, not-held}
use Rattle.calls.proofs.Asked.{looked-none, looked-missing, looked-held}
use Rattle.calls.proofs.ask.item_row.Goals as goal

pub returns-then-item-eq0 : goal.returns-then-item-eq0
unfolding LookedFits
returns-then-item-eq0 c =
    let a = c.args in
    record { fits = (omega arith, omega arith); found = (λ st h few. looked-none st a.p a.item h.0 c.if-item-eq0.true) }

pub returns-in_default : goal.returns-in_default
unfolding LookedFits
returns-in_default c =
    let found = c.held_by in
    let a = c.args in
    let e = a.item.row in record {
      fits = tt;
      found = (λ st h few.
          looked-missing st a.p a.item (pos-some e (omega (arith, c.if-item-eq0.false)))
          (not-held st a.p e (not-in-clist st a.p e found.result (found.ensures.found st h few) c.in_default.is)));
    }

pub overflow_add-word : goal.overflow_add-word
overflow_add-word c =
    let found = c.held_by in
    record { fits = omega (arith, c.requires.1, at-below c.args.n found.result c.in-Some.i found.ensures.within c.in-Some.is) }

pub overflow_cast-word : goal.overflow_cast-word
overflow_cast-word c =
    let found = c.held_by in
    record { fits = omega (arith, c.requires.1, at-below c.args.n found.result c.in-Some.i found.ensures.within c.in-Some.is) }

pub overflow_add-i : goal.overflow_add-i
overflow_add-i c =
    let found = c.held_by in
    record { fits = omega (arith, c.requires.1, at-below c.args.n found.result c.in-Some.i found.ensures.within c.in-Some.is) }

pub offset_bounds-t-i : goal.offset_bounds-t-i
offset_bounds-t-i c =
    let found = c.held_by in
    record { fits = omega (arith, c.requires.1, at-below c.args.n found.result c.in-Some.i found.ensures.within c.in-Some.is) }

pub bounds-t-i : goal.bounds-t-i
bounds-t-i c =
    let found = c.held_by in
    omega (arith, c.requires.0, c.requires.1, at-below c.args.n found.result c.in-Some.i found.ensures.within c.in-Some.is)

pub returns-then-is_end : goal.returns-then-is_end
unfolding LookedFits moves item_row
returns-then-is_end c =
    let found = c.held_by in
    let a = c.args in
    let e = a.item.row in record {
      fits = (omega (arith, at-below a.n found.result c.in-Some.i found.ensures.within c.in-Some.is), omega arith);
      found = (λ st h few.
          let (at, here) = found_in st (in_clist a.p) e found.result c.in-Some.i (found.ensures.found st h few) c.in-Some.is in
          let end = ap is_end (sym (row-words h.0 e c.in-Some.i at).kind) ∙ sym c.is_end.ensures ∙ c.if-is_end.true in
          looked-held st a.p a.item (pos-some e (omega (arith, c.if-item-eq0.false))) (held st a.p e here) c.in-Some.i at 0
          (ap (λ (b : Bool). cond (not b) 1 0) (sym end)));
    }

pub returns : goal.returns
unfolding LookedFits moves item_row
returns c =
    let found = c.held_by in
    let a = c.args in
    let e = a.item.row in record {
      fits = (omega (arith, at-below a.n found.result c.in-Some.i found.ensures.within c.in-Some.is), omega arith);
      found = (λ st h few.
          let (at, here) = found_in st (in_clist a.p) e found.result c.in-Some.i (found.ensures.found st h few) c.in-Some.is in
          let end = ap is_end (sym (row-words h.0 e c.in-Some.i at).kind) ∙ sym c.is_end.ensures ∙ c.if-is_end.false in
          looked-held st a.p a.item (pos-some e (omega (arith, c.if-item-eq0.false))) (held st a.p e here) c.in-Some.i at 1
          (ap (λ (b : Bool). cond (not b) 1 0) (sym end)));
    }
