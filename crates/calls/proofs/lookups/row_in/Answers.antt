-- `lookups::row_in`: no row, a row in the place, a row elsewhere.
use Prim.Native.Nat.{suc}
use native.Mathlib.Omega.{arith}
use mathlib.Core.Path.{◌≡◌, sym, ◌∙◌}
use Rattle.rows.specs.Layout.{row_slot}
use Rattle.rows.specs.vocabulary.Slots.{Within}
use Rattle.rows.proofs.Slots.{at-below, found_at, found_nothing, row-words}
use Rattle.calls.proofs.LookedUp.{in-absent, in_place, elsewhere}
use Rattle.calls.proofs.lookups.row_in.Goals as goal

pub returns-in_default : goal.returns-in_default
returns-in_default c =
    let a = c.args in
    let found = c.row_among in record { within = (unfold Within in tt); found = (λ st h. in-absent st a.place a.e (found_nothing (row_slot st.rows a.e) (found.ensures.found st h.0 h.1) c.in_default.is)) }

pub overflow_add-i : goal.overflow_add-i
overflow_add-i c =
    let found = c.row_among in
    record { fits = omega (arith, c.requires.1, at-below c.args.n found.result c.in-Some.i found.ensures.within c.in-Some.is) }

pub offset_bounds-t-i : goal.offset_bounds-t-i
offset_bounds-t-i c =
    let found = c.row_among in
    record { fits = omega (arith, c.requires.1, at-below c.args.n found.result c.in-Some.i found.ensures.within c.in-Some.is) }

pub bounds-t-i : goal.bounds-t-i
bounds-t-i c =
    let found = c.row_among in
    omega (arith, c.requires.0, c.requires.1, at-below c.args.n found.result c.in-Some.i found.ensures.within c.in-Some.is)

pub returns-then-t-i : goal.returns-then-t-i
returns-then-t-i c =
    let a = c.args in
    let found = c.row_among in
    record {
      within = (unfold Within in at-below a.n found.result c.in-Some.i found.ensures.within c.in-Some.is);
      found = (λ st h.
          let slot : row_slot st.rows a.e ≡ suc c.in-Some.i = found_at (row_slot st.rows a.e) c.in-Some.i (found.ensures.found st h.0 h.1) c.in-Some.is in
          in_place st a.place a.e c.in-Some.i slot (sym (row-words h.0 a.e c.in-Some.i slot).place ∙ c.if-t-i.true));
    }

pub returns : goal.returns
returns c =
    let a = c.args in
    let found = c.row_among in
    record {
      within = (unfold Within in tt);
      found = (λ st h.
          let slot : row_slot st.rows a.e ≡ suc c.in-Some.i = found_at (row_slot st.rows a.e) c.in-Some.i (found.ensures.found st h.0 h.1) c.in-Some.is in
          elsewhere st a.place a.e (λ p. c.if-t-i.false ((row-words h.0 a.e c.in-Some.i slot).place ∙ p)));
    }
