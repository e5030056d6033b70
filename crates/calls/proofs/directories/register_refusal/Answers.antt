-- `directories::register_refusal`: one return a test, then those of new rows.
use Prim.Native.Nat.{ℕ}
use native.Mathlib.Omega.{arith}
use mathlib.Core.Bool.{not}
use mathlib.Core.Path.{refl, ap, sym, ◌∙◌}
use Rattle.rows.specs.Codes.{is_end, may_register}
use Rattle.rows.specs.Tables.{row_of, is_lent}
use Rattle.rows.proofs.Slots.{row-words}
use Rattle.calls.specs.Rules.{lowest}
use Rattle.calls.proofs.Judging.{test-holds, test-fails}
use Rattle.calls.proofs.Refusing.{room_tests, held, register-rest}
use Rattle.calls.proofs.directories.register_refusal.Goals as goal

pub returns-then-is_end : goal.returns-then-is_end
returns-then-is_end c =
    let a = c.args in record {
      lowest = (λ st p e sd h m deep next.
          let kind = (row_of st.rows e).kind in
          let end = ap is_end (sym (row-words h.0 e a.i m.0).kind) ∙ sym c.is_end.ensures ∙ c.if-is_end.true in
          test-holds (is_end kind) 8 _ end ∙ sym (register-rest st p e (held st p e m.1)));
      room = (λ z. absurd (omega arith));
    }

pub returns-then-not-contains : goal.returns-then-not-contains
returns-then-not-contains c =
    let a = c.args in record {
      lowest = (λ st p e sd h m deep next.
          let r = row_of st.rows e in
          let words = row-words h.0 e a.i m.0 in
          let end = ap is_end (sym words.kind) ∙ sym c.is_end.ensures ∙ c.if-is_end.false in
          let lacks = ap may_register (sym words.rights) ∙ sym (c.contains.ensures.register refl) ∙ c.if-not-contains.true in
          test-fails (is_end r.kind) 8 end (test-holds (not (may_register r.rights)) 9 _ (ap not lacks)) ∙ sym (register-rest st p e (held st p e m.1)));
      room = (λ z. absurd (omega arith));
    }

pub returns-then-lent : goal.returns-then-lent
returns-then-lent c =
    let a = c.args in record {
      lowest = (λ st p e sd h m deep next.
          let r = row_of st.rows e in
          let words = row-words h.0 e a.i m.0 in
          let end = ap is_end (sym words.kind) ∙ sym c.is_end.ensures ∙ c.if-is_end.false in
          let has = ap may_register (sym words.rights) ∙ sym (c.contains.ensures.register refl) ∙ c.if-not-contains.false in
          let lent = sym (c.lent.ensures st e sd h.0 m.0) ∙ c.if-lent.true in
          test-fails (is_end r.kind) 8 end (test-fails (not (may_register r.rights)) 9 (ap not has) (test-holds (is_lent st e) 12 _ lent))
          ∙ sym (register-rest st p e (held st p e m.1)));
      room = (λ z. absurd (omega arith));
    }

pub returns : goal.returns
returns c =
    let a = c.args in record {
      lowest = (λ st p e sd h m deep next.
          let r = row_of st.rows e in
          let words = row-words h.0 e a.i m.0 in
          let end = ap is_end (sym words.kind) ∙ sym c.is_end.ensures ∙ c.if-is_end.false in
          let has = ap may_register (sym words.rights) ∙ sym (c.contains.ensures.register refl) ∙ c.if-not-contains.false in
          let lent = sym (c.lent.ensures st e sd h.0 m.0) ∙ c.if-lent.false in
          let rest = c.rows_refusal.ensures.lowest st h.1 next ∙ ap (λ (d : ℕ). lowest (room_tests st d 1)) (sym deep) in
          test-fails (is_end r.kind) 8 end (test-fails (not (may_register r.rights)) 9 (ap not has) (test-fails (is_lent st e) 12 lent rest))
          ∙ sym (register-rest st p e (held st p e m.1)));
      room = c.rows_refusal.ensures.room;
    }
