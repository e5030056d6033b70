-- `directories::hold_row`: refused, or a row more.
use native.Mathlib.Omega.{arith}
use Rattle.std.proofs.lemmas.Result.{err_from_is_err_and}
use native.Mathlib.Numerals.{add-one}
use mathlib.Core.Path.{refl, sym, ◌∙◌}
use Rattle.rows.proofs.Slots.{represented-next}
use Rattle.calls.specs.Calls.{refusals}
use Rattle.calls.proofs.LookedUp.{depth-most}
use Rattle.calls.proofs.Judging.{refusal-some, refused-answers, accepted-answers}
use Rattle.rows.specs.Tables.{process_at}
use Rattle.calls.specs.declared.Call.TheVariants.{Hold}
use Rattle.calls.proofs.Effected.{held-row}
use Rattle.calls.proofs.directories.hold_row.Goals as goal

pub returns-in_err-hold_refusal : goal.returns-in_err-hold_refusal
unfolding refusals
returns-in_err-hold_refusal c =
    let no = c.in_err-hold_refusal in
    let (y, is, same) = err_from_is_err_and c.from_residual.result c.from_residual.ensures.1 in
    let over = c.depth_over-d in
    let next = c.next_of-next in
    let a = c.args in record {
      answers = (λ st e sd h m l.
          let x = (process_at st.processes a.p).through in
          let deep = over.ensures st e x h.0 (m.0 ∙ sym (add-one a.i)) m.2 (depth-most st sd e) (depth-most st sd x) in
          let number = next.ensures ∙ represented-next h.0 in
          rw (is, same) (refused-answers st (Hold a.p e) h.0 _ (no.ensures.lowest st a.p e sd h m (sym deep) (sym number)) (refusal-some _)));
      long = c.requires.0;
    }

pub add_held-requires : goal.add_held-requires
add_held-requires c =
    let room = c.in_ok-hold_refusal.ensures.room refl in
    (c.requires.0, omega (arith, room.0), c.requires.2, c.requires.3, omega (arith, room.1))

pub returns : goal.returns
unfolding refusals
returns c =
    let added = c.add_held in
    let no = c.in_ok-hold_refusal in
    let over = c.depth_over-d in
    let next = c.next_of-next in
    let a = c.args in record {
      answers = (λ st e sd h m l.
          let x = (process_at st.processes a.p).through in
          let deep = over.ensures st e x h.0 (m.0 ∙ sym (add-one a.i)) m.2 (depth-most st sd e) (depth-most st sd x) in
          let number = next.ensures ∙ represented-next h.0 in
          let none = no.ensures.lowest st a.p e sd h m (sym deep) (sym number) in
          accepted-answers st (Hold a.p e) none _ (held-row st a.p e next.result number (added.ensures.held st e sd h m.0 l m.2 (sym deep) (sym number))));
      long = added.ensures.long;
    }
