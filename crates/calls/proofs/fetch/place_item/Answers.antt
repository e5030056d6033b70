-- `fetch::place_item`: nothing changes for 0 and for a number that no row has; else one store.
use native.Mathlib.Omega.{arith}
use mathlib.Core.Path.{sym, subst}
use Rattle.rows.specs.Layout.{row_slot}
use Rattle.rows.specs.Tables.{State}
use Rattle.rows.specs.vocabulary.Represents.{Represents}
use Rattle.rows.proofs.Bools.{pos-some}
use Rattle.rows.proofs.Slots.{at-below, found_at, found_nothing}
use Rattle.calls.proofs.Handed.{zero-placed, absent-placed, one_placed}
use Rattle.calls.proofs.fetch.place_item.Goals as goal

pub returns-then-e-eq0 : goal.returns-then-e-eq0
returns-then-e-eq0 c =
    let a = c.args in
    record { placed = (λ st h. subst (λ (x : State). Represents a.t.now x) (sym (zero-placed a.place a.e st c.if-e-eq0.true)) h.0); long = c.requires.0 }

pub returns-in_default : goal.returns-in_default
returns-in_default c =
    let found = c.row_among in
    let a = c.args in record {
      placed = (λ st h.
          let none = found_nothing (row_slot st.rows a.e) (found.ensures.found st h.0 h.1) c.in_default.is in
          subst (λ (x : State). Represents a.t.now x) (sym (absent-placed a.place a.e st (pos-some a.e (omega (arith, c.if-e-eq0.false))) none)) h.0);
      long = c.requires.0;
    }

pub set_place-requires : goal.set_place-requires
set_place-requires c =
    let found = c.row_among in
    (c.requires.0, omega (arith, c.requires.1, at-below c.args.n found.result c.in-Some.i found.ensures.within c.in-Some.is))

pub returns : goal.returns
returns c =
    let put = c.set_place in
    let found = c.row_among in
    let a = c.args in record {
      placed = (λ st h.
          let slot = found_at (row_slot st.rows a.e) c.in-Some.i (found.ensures.found st h.0 h.1) c.in-Some.is in
          subst (λ (x : State). Represents put.new.t x) (one_placed a.place a.e st (pos-some a.e (omega (arith, c.if-e-eq0.false)))) (put.ensures.represents st a.e h.0 slot));
      long = put.ensures.long;
    }
