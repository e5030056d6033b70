-- `directories::hold_refusal`: one return a test, then those of new rows.
use Prim.Native.Nat.{ℕ}
use native.Mathlib.Omega.{arith}
use mathlib.Core.Bool.{not}
use mathlib.Core.Path.{refl, ap, sym, ◌∙◌}
use Rattle.rows.specs.Codes.{may_hold}
use Rattle.rows.specs.Tables.{row_of, process_at}
use Rattle.rows.proofs.Slots.{row-words}
use Rattle.calls.specs.Rules.{lowest}
use Rattle.calls.proofs.Judging.{test-holds, test-fails}
use Rattle.calls.proofs.Refusing.{room_tests, takes_lent, hold-rest}
use Rattle.calls.proofs.directories.hold_refusal.Goals as goal

pub returns-then-not-contains : goal.returns-then-not-contains
returns-then-not-contains c =
    let a = c.args in record {
      lowest = (λ st p s sd h m deep next.
          let right = (row_of st.rows s).rights in
          let lacks = ap may_hold (sym (row-words h.0 s a.i m.0).rights) ∙ sym (c.contains.ensures.hold refl) ∙ c.if-not-contains.true in
          test-holds (not (may_hold right)) 9 _ (ap not lacks) ∙ sym (hold-rest st p s m.1));
      room = (λ z. absurd (omega arith));
    }

pub returns-then-takes_lent : goal.returns-then-takes_lent
returns-then-takes_lent c =
    let a = c.args in record {
      lowest = (λ st p s sd h m deep next.
          let right = (row_of st.rows s).rights in
          let has = ap may_hold (sym (row-words h.0 s a.i m.0).rights) ∙ sym (c.contains.ensures.hold refl) ∙ c.if-not-contains.false in
          let takes = sym (c.takes_lent.ensures st s (process_at st.processes p).through sd h.0 m.0 m.2) ∙ c.if-takes_lent.true in
          test-fails (not (may_hold right)) 9 (ap not has) (test-holds (takes_lent st p s) 12 _ takes) ∙ sym (hold-rest st p s m.1));
      room = (λ z. absurd (omega arith));
    }

pub returns : goal.returns
returns c =
    let a = c.args in record {
      lowest = (λ st p s sd h m deep next.
          let right = (row_of st.rows s).rights in
          let has = ap may_hold (sym (row-words h.0 s a.i m.0).rights) ∙ sym (c.contains.ensures.hold refl) ∙ c.if-not-contains.false in
          let takes = sym (c.takes_lent.ensures st s (process_at st.processes p).through sd h.0 m.0 m.2) ∙ c.if-takes_lent.false in
          let rest = c.rows_refusal.ensures.lowest st h.1 next ∙ ap (λ (d : ℕ). lowest (room_tests st d 1)) (sym deep) in
          test-fails (not (may_hold right)) 9 (ap not has) (test-fails (takes_lent st p s) 12 takes rest) ∙ sym (hold-rest st p s m.1));
      room = c.rows_refusal.ensures.room;
    }
