-- `answering::answer`: no such row, or what the end gives.
use native.Mathlib.Omega.{arith}
use Rattle.rows.specs.Codes.{in_clist}
use Rattle.rows.proofs.Slots.{at-below}
use Rattle.calls.proofs.LookedUp.{found_in}
use Rattle.calls.proofs.Refusing.{not-held, seven}
use Rattle.calls.specs.Rules.{not_held}
use Rattle.calls.specs.declared.Call.{Call}
use Rattle.calls.specs.Calls.{refusals, refusals_answer}
use Rattle.calls.proofs.Judging.{unwrapped, by-number, not-in-clist, refused-agrees}
use Rattle.calls.proofs.answering.answer.Goals as goal

pub returns-in_default : goal.returns-in_default
unfolding refusals refusals_answer
returns-in_default c =
    let found = c.held_by in
    let a = c.args in record {
      performs = (λ st sd rep same listed.
          let away = not-in-clist st a.p a.e found.result (found.ensures.found st (rep, c.count_rows-n.ensures.counted st rep) c.requires.2.1) c.in_default.is in
          by-number c.into.ensures (refused-agrees st (Call.Answer a.p a.e a.served) rep same 7 (seven (not_held st a.p a.e) _ (not-held st a.p a.e away)) (λ z. absurd (omega arith))));
      long = (c.requires.0, c.requires.1);
    }

pub answer_end-requires : goal.answer_end-requires
answer_end-requires c =
    let found = c.held_by in
    let count = c.count_rows-n in
    (c.requires.0, c.requires.1, count.ensures.within, omega (arith, count.ensures.within, at-below count.result found.result c.in-Some.i found.ensures.within c.in-Some.is))

pub returns : goal.returns
returns c =
    let end = c.answer_end in
    let found = c.held_by in
    let count = c.count_rows-n in
    let a = c.args in record {
      performs = (λ st sd rep same listed.
          let counted = count.ensures.counted st rep in
          let here = found_in st (in_clist a.p) a.e found.result c.in-Some.i (found.ensures.found st (rep, counted) c.requires.2.1) c.in-Some.is in
          rw (unwrapped end.result _ c.unwrap_or_else.ensures) (end.ensures.performs st a.e sd rep counted same here c.requires.2.1));
      long = end.ensures.long;
    }
