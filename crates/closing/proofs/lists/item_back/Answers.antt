-- `lists::item_back`: nothing changes for 0, for a number that no row has, and for a row that is out;
-- else the row's place and its mark are stored.
use Prim.Native.Nat.{ℕ, suc}
use native.Mathlib.Omega.{arith}
use mathlib.Core.Path.{◌≡◌, sym, subst, ◌∙◌}
use mathlib.Core.Bool.{Bool}
use mathlib.Core.List.{List, [], ◌∷◌}
use Rattle.rows.specs.Codes.{in_clist}
use Rattle.rows.specs.vocabulary.Represents.{Represents, change_row}
use Rattle.rows.specs.Layout.{row_slot}
use Rattle.rows.specs.Setters.{with_place}
use Rattle.rows.proofs.Bools.{pos-some}
use Rattle.rows.proofs.Slots.{at-below, found_at, found_nothing}
use Rattle.changes.specs.vocabulary.Bits.{marks_in}
use Rattle.closing.specs.vocabulary.Lists.{WentBack}
use Rattle.closing.proofs.ListsMarks.{mark-read}
use Rattle.closing.proofs.ListsBack.{back-zero, back-absent, back-before, back-now}
use Rattle.closing.proofs.lists.item_back.Goals as goal

pub returns-then-e-eq0 : goal.returns-then-e-eq0
returns-then-e-eq0 c =
    let a = c.args in
    record { back = (λ st b rep count few m. back-zero b a.asker st a.t.now (marks_in a.out.now) rep m a.e c.if-e-eq0.true); long = c.requires.0 }

pub returns-in_default : goal.returns-in_default
returns-in_default c =
    let a = c.args in record {
      back = (λ st b rep count few m.
          back-absent b a.asker st a.t.now (marks_in a.out.now) rep m a.e (pos-some a.e (omega (arith, c.if-e-eq0.false)))
          (found_nothing (row_slot st.rows a.e) (c.row_among.ensures.found st rep count) c.in_default.is));
      long = c.requires.0;
    }

pub is_set-requires : goal.is_set-requires
is_set-requires c =
    omega (arith, at-below c.args.n c.row_among.result c.in-Some.i c.row_among.ensures.within c.in-Some.is)

pub returns-then-is_set : goal.returns-then-is_set
returns-then-is_set c =
    let read = c.is_set in
    let a = c.args in
    let i = c.in-Some.i in record {
      back = (λ st b rep count few m.
          let slot : row_slot st.rows a.e ≡ suc i = found_at (row_slot st.rows a.e) i (c.row_among.ensures.found st rep count) c.in-Some.is in
          back-before b a.asker st a.t.now (marks_in a.out.now) rep m a.e (pos-some a.e (omega (arith, c.if-e-eq0.false)))
          (sym (mark-read b st.rows a.e i slot (marks_in a.out.now) m) ∙ sym read.ensures ∙ c.if-is_set.true));
      long = c.requires.0;
    }

pub set-requires : goal.set-requires
set-requires c =
    omega (arith, at-below c.args.n c.row_among.result c.in-Some.i c.row_among.ensures.within c.in-Some.is)

pub set_place-requires : goal.set_place-requires
set_place-requires c = (
  c.requires.0,
  omega (arith, at-below c.args.n c.row_among.result c.in-Some.i c.row_among.ensures.within c.in-Some.is),
)

pub returns : goal.returns
returns c =
    let put = c.set_place in
    let marked = c.set in
    let read = c.is_set in
    let a = c.args in
    let i = c.in-Some.i in record {
      back = (λ st b rep count few m.
          let slot : row_slot st.rows a.e ≡ suc i = found_at (row_slot st.rows a.e) i (c.row_among.ensures.found st rep count) c.in-Some.is in
          let place : c.clist-place.result ≡ in_clist a.asker = c.clist-place.ensures few in
          subst (λ (ms : List Bool). WentBack b a.asker (a.e ∷ []) st put.new.t ms) (sym marked.ensures)
          (back-now b a.asker st a.t.now put.new.t (marks_in a.out.now) rep m a.e (pos-some a.e (omega (arith, c.if-e-eq0.false)))
          (sym (mark-read b st.rows a.e i slot (marks_in a.out.now) m) ∙ sym read.ensures ∙ c.if-is_set.false) i slot
          (subst (λ (p : ℕ). Represents put.new.t (change_row a.e (with_place p) st)) place (put.ensures.represents st a.e rep slot))));
      long = put.ensures.long;
    }
