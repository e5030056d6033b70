-- `directories::register_row`: refused, or a row more.
use native.Mathlib.Omega.{arith}
use Rattle.std.proofs.lemmas.Result.{err_from_is_err_and}
use mathlib.Core.Path.{refl, sym, ◌∙◌}
use Rattle.rows.proofs.Slots.{represented-next}
use Rattle.calls.specs.Calls.{refusals}
use Rattle.calls.proofs.Judging.{refusal-some, refused-answers, accepted-answers}
use Rattle.rows.specs.Tables.{row_of}
use Rattle.calls.specs.declared.Call.TheVariants.{Register}
use Rattle.calls.proofs.LookedUp.{depth-most, zero_word}
use Rattle.calls.proofs.Effected.{registered-row}
use Rattle.calls.proofs.directories.register_row.Goals as goal

pub returns-in_err-register_refusal : goal.returns-in_err-register_refusal
unfolding refusals
returns-in_err-register_refusal c =
    let no = c.in_err-register_refusal in
    let (y, is, same) = err_from_is_err_and c.from_residual.result c.from_residual.ensures.1 in
    let over = c.depth_over-d in
    let source = c.source_word-source in
    let next = c.next_of-next in
    let a = c.args in record {
      answers = (λ st p e sd h m node.
          let deep = over.ensures st (row_of st.rows e).source 0 h.0 (sym (source.ensures.word st e h m.0)) (zero_word h.0) (depth-most st sd (row_of st.rows e).source) (depth-most st sd 0) in
          let number = next.ensures ∙ represented-next h.0 in
          rw (is, same) (refused-answers st (Register p e) h.0 _ (no.ensures.lowest st p e sd h m (sym deep) (sym number)) (refusal-some _)));
      long = c.requires.0;
    }

pub add_registered-requires : goal.add_registered-requires
add_registered-requires c =
    let room = c.in_ok-register_refusal.ensures.room refl in
    (c.requires.0, omega (arith, room.0), c.requires.2, c.source_word-source.ensures.within, omega (arith, room.1))

pub returns : goal.returns
unfolding refusals
returns c =
    let added = c.add_registered in
    let no = c.in_ok-register_refusal in
    let over = c.depth_over-d in
    let source = c.source_word-source in
    let next = c.next_of-next in
    let a = c.args in record {
      answers = (λ st p e sd h m node.
          let word = sym (source.ensures.word st e h m.0) in
          let deep = over.ensures st (row_of st.rows e).source 0 h.0 word (zero_word h.0) (depth-most st sd (row_of st.rows e).source) (depth-most st sd 0) in
          let number = next.ensures ∙ represented-next h.0 in
          let none = no.ensures.lowest st p e sd h m (sym deep) (sym number) in
          accepted-answers st (Register p e) none _ (registered-row st p e next.result number (added.ensures.registered st p e sd h m.0 node word (sym deep) (sym number))));
      long = added.ensures.long;
    }
