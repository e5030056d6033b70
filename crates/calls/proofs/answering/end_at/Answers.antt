-- `answering::end_at`: no row, an end, another row.
use Prim.Native.Nat.{suc}
use native.Mathlib.Omega.{arith}
use mathlib.Core.Path.{◌≡◌, ap, sym, ◌∙◌}
use Rattle.rows.specs.Codes.{is_end}
use Rattle.rows.specs.Layout.{row_slot}
use Rattle.rows.specs.vocabulary.Slots.{Within}
use Rattle.rows.proofs.Slots.{at-below, found_at, found_nothing, row-words}
use Rattle.calls.proofs.LentEnds.{end-absent, end-here, end-other}
use Rattle.calls.proofs.answering.end_at.Goals as goal

pub returns-in_default : goal.returns-in_default
returns-in_default c =
    let a = c.args in
    let found = c.row_among in record { within = (unfold Within in tt); found = (λ st h. end-absent st a.e (found_nothing (row_slot st.rows a.e) (found.ensures.found st h.0 h.1) c.in_default.is)) }

pub overflow_add-i : goal.overflow_add-i
overflow_add-i c =
    let found = c.row_among in
    record { fits = omega (arith, c.requires.1, at-below c.args.n found.result c.in-Some.i found.ensures.within c.in-Some.is) }

pub offset_bounds-t-i : goal.offset_bounds-t-i
offset_bounds-t-i c =
    let found = c.row_among in
    record { fits = omega (arith, c.requires.1, at-below c.args.n found.result c.in-Some.i found.ensures.within c.in-Some.is) }

pub bounds-t-i : goal.bounds-t-i
bounds-t-i c =
    let found = c.row_among in
    omega (arith, c.requires.0, c.requires.1, at-below c.args.n found.result c.in-Some.i found.ensures.within c.in-Some.is)

pub returns-then-is_end : goal.returns-then-is_end
returns-then-is_end c =
    let found = c.row_among in
    let a = c.args in record {
      within = (unfold Within in at-below a.n found.result c.in-Some.i found.ensures.within c.in-Some.is);
      found = (λ st h.
          let slot : row_slot st.rows a.e ≡ suc c.in-Some.i = found_at (row_slot st.rows a.e) c.in-Some.i (found.ensures.found st h.0 h.1) c.in-Some.is in
          end-here st a.e c.in-Some.i slot (ap is_end (sym (row-words h.0 a.e c.in-Some.i slot).kind) ∙ sym c.is_end.ensures ∙ c.if-is_end.true));
    }

pub returns : goal.returns
returns c =
    let found = c.row_among in
    let a = c.args in record {
      within = (unfold Within in tt);
      found = (λ st h.
          let slot : row_slot st.rows a.e ≡ suc c.in-Some.i = found_at (row_slot st.rows a.e) c.in-Some.i (found.ensures.found st h.0 h.1) c.in-Some.is in
          end-other st a.e (ap is_end (sym (row-words h.0 a.e c.in-Some.i slot).kind) ∙ sym c.is_end.ensures ∙ c.if-is_end.false));
    }
