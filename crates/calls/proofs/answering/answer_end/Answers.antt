-- `answering::answer_end`: no server end, no request, refused, or the request closes.
use native.Mathlib.Omega.{arith}
use Rattle.std.proofs.lemmas.Result.{err_from_is_err_and}
use mathlib.Core.Bool.{not, ◌&&◌, ◌||◌}
use mathlib.Core.Path.{ap, sym, ◌∙◌}
use lib.Dec.{eqb}
use Rattle.rows.specs.Codes.{is_server}
use Rattle.rows.specs.Tables.{row_of}
use Rattle.rows.specs.Sound.{is_fetched}
use Rattle.rows.specs.vocabulary.Slots.{open_slot}
use Rattle.rows.proofs.Bools.{and-rf, or_l}
use Rattle.rows.proofs.Slots.{at-below, found_at, found_nothing, row-words, open-words}
use Rattle.calls.specs.declared.Call.{Call}
use Rattle.calls.specs.Rules.{asked_of}
use Rattle.calls.specs.Calls.{refusals}
use Rattle.calls.proofs.Judging.{refusal-some, test-holds, test-fails, refused-agrees, accepted-agrees}
use Rattle.calls.proofs.Refusing.{held, no-server, is-server, asked-none}
use Rattle.calls.proofs.LentEnds.{answer-rest, none_lent}
use Rattle.calls.proofs.Effected.{answered-request}
use Rattle.calls.proofs.answering.answer_end.Goals as goal

pub returns-then-t-i-ne-A_SERVER_END : goal.returns-then-t-i-ne-A_SERVER_END
unfolding refusals
returns-then-t-i-ne-A_SERVER_END c =
    let a = c.args in record {
      performs = (λ st e sd rep count same m few.
          let kind = (row_of st.rows e).kind in
          let other = no-server kind (λ k. c.if-t-i-ne-A_SERVER_END.true ((row-words rep e a.i m.0).kind ∙ k)) in
          refused-agrees st (Call.Answer a.p e a.served) rep same 8 (test-holds (not (is_server kind)) 8 _ other ∙ sym (answer-rest st a.p e a.served (held st a.p e m.1))) (λ z. absurd (omega arith)));
      long = (c.requires.0, c.requires.1);
    }

pub returns-in_default : goal.returns-in_default
unfolding refusals
returns-in_default c =
    let found = c.asked_at in
    let a = c.args in record {
      performs = (λ st e sd rep count same m few.
          let kind = (row_of st.rows e).kind in
          let v = asked_of st e in
          let server = is-server kind (sym (row-words rep e a.i m.0).kind ∙ c.if-t-i-ne-A_SERVER_END.false) in
          let none = found_nothing (open_slot st.requests (row_of st.rows e).object)
          (found.ensures.found st e (rep, c.count_requests-m.ensures.counted st rep) m.0) c.in_default.is in
          let eleven = test-holds (eqb v.number 0 || (a.served && not (is_fetched v))) 11 _ (or_l (eqb v.number 0) _ (asked-none st e none)) in
          refused-agrees st (Call.Answer a.p e a.served) rep same 11
          (test-fails (not (is_server kind)) 8 (ap not server) (test-fails _ 10 (and-rf a.served _ (none_lent st e none _)) eleven) ∙ sym (answer-rest st a.p e a.served (held st a.p e m.1))) (λ z. absurd (omega arith)));
      long = (c.requires.0, c.requires.1);
    }

pub answer_refusal-requires : goal.answer_refusal-requires
answer_refusal-requires c =
    let found = c.asked_at in
    let count = c.count_requests-m in
    (c.requires.0, c.requires.2, count.ensures.within, omega (arith, count.ensures.within, at-below count.result found.result c.in-Some.j found.ensures.within c.in-Some.is))

pub returns-in_err-answer_refusal : goal.returns-in_err-answer_refusal
unfolding refusals
returns-in_err-answer_refusal c =
    let no = c.in_err-answer_refusal in
    let (y, is, residual) = err_from_is_err_and c.from_residual.result c.from_residual.ensures.1 in
    let found = c.asked_at in
    let counted = c.count_requests-m in
    let a = c.args in record {
      performs = (λ st e sd rep count same m few.
          let requests = counted.ensures.counted st rep in
          let server = is-server (row_of st.rows e).kind (sym (row-words rep e a.i m.0).kind ∙ c.if-t-i-ne-A_SERVER_END.false) in
          let slot = found_at (open_slot st.requests (row_of st.rows e).object) c.in-Some.j (found.ensures.found st e (rep, requests) m.0) c.in-Some.is in
          rw (is, residual) (refused-agrees st (Call.Answer a.p e a.served) rep same _ (no.ensures st e (rep, count, requests) (m.1, server, slot) few) (refusal-some _)));
      long = (c.requires.0, c.requires.1);
    }

pub overflow_add-q : goal.overflow_add-q
overflow_add-q c =
    let found = c.asked_at in
    let count = c.count_requests-m in
    record { fits = omega (arith, count.ensures.within, at-below count.result found.result c.in-Some.j found.ensures.within c.in-Some.is) }

pub offset_bounds-t-j : goal.offset_bounds-t-j
offset_bounds-t-j c =
    let found = c.asked_at in
    let count = c.count_requests-m in
    record { fits = omega (arith, count.ensures.within, at-below count.result found.result c.in-Some.j found.ensures.within c.in-Some.is) }

pub bounds-t-j : goal.bounds-t-j
bounds-t-j c =
    let found = c.asked_at in
    let count = c.count_requests-m in
    omega (arith, c.requires.0, count.ensures.within, at-below count.result found.result c.in-Some.j found.ensures.within c.in-Some.is)

pub returns : goal.returns
unfolding refusals asked_of
returns c =
    let closed = c.close_request in
    let no = c.in_ok-answer_refusal in
    let found = c.asked_at in
    let counted = c.count_requests-m in
    let a = c.args in record {
      performs = (λ st e sd rep count same m few.
          let port = (row_of st.rows e).object in
          let requests = counted.ensures.counted st rep in
          let server = is-server (row_of st.rows e).kind (sym (row-words rep e a.i m.0).kind ∙ c.if-t-i-ne-A_SERVER_END.false) in
          let slot = found_at (open_slot st.requests port) c.in-Some.j (found.ensures.found st e (rep, requests) m.0) c.in-Some.is in
          accepted-agrees st (Call.Answer a.p e a.served) (no.ensures st e (rep, count, requests) (m.1, server, slot) few)
          (answered-request st a.p e _ a.served _ (open-words rep port c.in-Some.j slot).number (closed.ensures.closed st sd rep same)));
      long = closed.ensures.long;
    }
