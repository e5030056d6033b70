-- `ports::port_refusal`: the kind, then the tests of new rows.
use Prim.Native.Nat.{ℕ}
use native.Mathlib.Omega.{arith}
use borrow.Author.Tests.{eq-eqb, ne_eqb}
use mathlib.Core.Bool.{not}
use mathlib.Core.Path.{ap, sym, ◌∙◌}
use Rattle.rows.specs.Codes.{operation, is_operation}
use Rattle.rows.specs.Tables.{row_of}
use Rattle.rows.proofs.Slots.{row-words}
use Rattle.calls.specs.Rules.{lowest}
use Rattle.calls.proofs.Judging.{test-holds, test-fails}
use Rattle.calls.proofs.Refusing.{room_tests, held, port-rest}
use Rattle.calls.proofs.ports.port_refusal.Goals as goal

pub returns-then-t-i-ne-AN_OPERATION : goal.returns-then-t-i-ne-AN_OPERATION
unfolding is_operation operation
returns-then-t-i-ne-AN_OPERATION c =
    let a = c.args in record {
      lowest = (λ st p e sd h m deep next.
          let kind = (row_of st.rows e).kind in
          let other = ne_eqb kind 1 (λ k. c.if-t-i-ne-AN_OPERATION.true ((row-words h.0 e a.i m.0).kind ∙ k)) in
          test-holds (not (is_operation kind)) 8 _ (ap not other) ∙ sym (port-rest st p e (held st p e m.1)));
      room = (λ z. absurd (omega arith));
    }

pub returns : goal.returns
unfolding is_operation operation
returns c =
    let a = c.args in record {
      lowest = (λ st p e sd h m deep next.
          let kind = (row_of st.rows e).kind in
          let same = eq-eqb kind 1 (sym (row-words h.0 e a.i m.0).kind ∙ c.if-t-i-ne-AN_OPERATION.false) in
          let rest = c.rows_refusal.ensures.lowest st h.1 next ∙ ap (λ (d : ℕ). lowest (room_tests st d 2)) (sym deep) in
          test-fails (not (is_operation kind)) 8 (ap not same) rest ∙ sym (port-rest st p e (held st p e m.1)));
      room = c.rows_refusal.ensures.room;
    }
