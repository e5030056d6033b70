-- `lists::item_out`: the mark at the row's slot says whether the item leaves.
use Prim.Native.Nat.{suc}
use native.Mathlib.Omega.{arith}
use mathlib.Core.Bool.{true, false}
use mathlib.Core.Path.{◌≡◌, sym, ◌∙◌}
use Rattle.rows.specs.Lists.{some}
use Rattle.rows.specs.Layout.{row_slot}
use Rattle.rows.proofs.Bools.{clash, and_i, pos-some}
use Rattle.rows.proofs.Slots.{at-below, found_at, found_nothing, row-none}
use Rattle.changes.specs.vocabulary.Bits.{marks_in}
use Rattle.closing.proofs.ListsMarks.{mark-read}
use Rattle.closing.proofs.ListsOut.{slot-here, none-zero, none_passes, out-same, out-now}
use Rattle.closing.proofs.lists.item_out.Goals as goal

pub returns-then-e-eq0 : goal.returns-then-e-eq0
returns-then-e-eq0 c =
    let a = c.args in record {
      out = (λ st b new w old rep count here stands out.
          out-same rep new w old here.0 b a.k a.e (none-zero a.e c.if-e-eq0.true (b a.e)));
      long = c.requires.0;
    }

pub returns-in_default : goal.returns-in_default
returns-in_default c =
    let e = c.args.e in record {
      out = (λ st b new w old rep count here stands out.
          let h : some e ≡ true = pos-some e (omega (arith, c.if-e-eq0.false)) in
          clash (stands h) (row-none st.rows e (found_nothing (row_slot st.rows e) (c.row_among.ensures.found st rep count) c.in_default.is)));
      long = c.requires.0;
    }

pub is_set-requires : goal.is_set-requires
is_set-requires c =
    omega (arith, at-below c.args.n c.row_among.result c.in-Some.i c.row_among.ensures.within c.in-Some.is)

pub returns-then-is_set : goal.returns-then-is_set
returns-then-is_set c =
    let cleared = c.clear_item in
    let read = c.is_set in
    let a = c.args in
    let e = a.e in
    let i = c.in-Some.i in record {
      out = (λ st b new w old rep count here stands out.
          let at_i : row_slot st.rows e ≡ suc i = found_at (row_slot st.rows e) i (c.row_among.ensures.found st rep count) c.in-Some.is in
          let goes : b e ≡ true = sym (mark-read b st.rows e i at_i (marks_in a.out.now) out) ∙ sym read.ensures ∙ c.if-is_set.true in
          out-now rep new w old here.0 b a.k e (and_i (some e) (b e) (pos-some e (omega (arith, c.if-e-eq0.false))) goes) cleared.new.t
          (cleared.ensures.represents st w.number rep (slot-here rep new w old here.0 a.j here.1)));
      long = cleared.ensures.long;
    }

pub returns-else-is_set : goal.returns-else-is_set
returns-else-is_set c =
    let read = c.is_set in
    let a = c.args in
    let e = a.e in
    let i = c.in-Some.i in record {
      out = (λ st b new w old rep count here stands out.
          let at_i : row_slot st.rows e ≡ suc i = found_at (row_slot st.rows e) i (c.row_among.ensures.found st rep count) c.in-Some.is in
          let stays : b e ≡ false = sym (mark-read b st.rows e i at_i (marks_in a.out.now) out) ∙ sym read.ensures ∙ c.if-is_set.false in
          out-same rep new w old here.0 b a.k e (none_passes (some e) (b e) stays));
      long = c.requires.0;
    }
