-- `ports::port_row`: refused, or two rows more.
use native.Mathlib.Omega.{arith}
use native.Mathlib.Numerals.{add-one}
use mathlib.Core.Path.{refl, sym, ◌∙◌}
use Rattle.std.proofs.lemmas.Result.{err_from_is_err_and}
use Rattle.rows.proofs.Slots.{represented-next}
use Rattle.calls.specs.Calls.{refusals}
use Rattle.calls.proofs.Judging.{refusal-some, refused-answers, accepted-answers}
use Rattle.calls.specs.declared.Call.TheVariants.{Port}
use Rattle.calls.proofs.LookedUp.{depth-most, zero_word}
use Rattle.calls.proofs.Refusing.{port-operation}
use Rattle.calls.proofs.Effected.{made-port, manager-few}
use Rattle.calls.proofs.ports.port_row.Goals as goal

pub returns-in_err-port_refusal : goal.returns-in_err-port_refusal
unfolding refusals
returns-in_err-port_refusal c =
    let no = c.in_err-port_refusal in
    let (y, is, same) = err_from_is_err_and c.from_residual.result c.from_residual.ensures.1 in
    let over = c.depth_over-d in
    let next = c.next_of-next in
    let a = c.args in record {
      answers = (λ st e sd h m.
          let deep = over.ensures st e 0 h.0 (m.0 ∙ sym (add-one a.i)) (zero_word h.0) (depth-most st sd e) (depth-most st sd 0) in
          let number = next.ensures ∙ represented-next h.0 in
          rw (is, same) (refused-answers st (Port a.p e) h.0 _ (no.ensures.lowest st a.p e sd h m (sym deep) (sym number)) (refusal-some _)));
      long = c.requires.0;
    }

pub add_port-requires : goal.add_port-requires
add_port-requires c =
    let room = c.in_ok-port_refusal.ensures.room refl in
    (c.requires.0, omega (arith, room.0), c.requires.2, omega (arith, room.1), c.requires.3)

pub returns : goal.returns
unfolding refusals
returns c =
    let added = c.add_port in
    let no = c.in_ok-port_refusal in
    let over = c.depth_over-d in
    let next = c.next_of-next in
    let a = c.args in record {
      answers = (λ st e sd h m.
          let deep = over.ensures st e 0 h.0 (m.0 ∙ sym (add-one a.i)) (zero_word h.0) (depth-most st sd e) (depth-most st sd 0) in
          let number = next.ensures ∙ represented-next h.0 in
          let none = no.ensures.lowest st a.p e sd h m (sym deep) (sym number) in
          let few = manager-few st sd e a.i m.0 (port-operation st a.p e none) in
          accepted-answers st (Port a.p e) none _ (made-port st a.p e next.result number (added.ensures.made st e sd h m.0 few (sym deep) (sym number))));
      long = added.ensures.long;
    }
