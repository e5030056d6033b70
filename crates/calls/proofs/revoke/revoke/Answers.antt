-- `loans::revoke`: no such request, that of another process, or it closes.
use native.Mathlib.Omega.{arith}
use mathlib.Core.Path.{sym, ◌∙◌}
use Rattle.rows.specs.vocabulary.Slots.{request_slot}
use Rattle.rows.proofs.Slots.{at-below, found_at, found_nothing, request-words}
use Rattle.calls.specs.declared.Call.TheVariants.{Revoke}
use Rattle.calls.specs.Calls.{refusals}
use Rattle.calls.proofs.Judging.{by-number, refused-agrees, accepted-agrees}
use Rattle.calls.proofs.Refusing.{revoke-none, revoke-other, revoke-own, request-some}
use Rattle.calls.proofs.Effected.{revoked}
use Rattle.calls.proofs.revoke.revoke.Goals as goal

pub returns-in_default : goal.returns-in_default
unfolding refusals
returns-in_default c =
    let found = c.request_among in
    let a = c.args in record {
      performs = (λ st sd rep same listed.
          let none = found_nothing (request_slot st.requests a.q) (found.ensures.found st (rep, c.count_requests-m.ensures.counted st rep)) c.in_default.is in
          by-number c.into.ensures (refused-agrees st (Revoke a.p a.q) rep same 7 (revoke-none st a.p a.q none) (λ z. absurd (omega arith))));
      long = (c.requires.0, c.requires.1);
    }

pub overflow_add-j : goal.overflow_add-j
overflow_add-j c =
    let found = c.request_among in
    let count = c.count_requests-m in
    record { fits = omega (arith, count.ensures.within, at-below count.result found.result c.in-Some.j found.ensures.within c.in-Some.is) }

pub offset_bounds-t-j : goal.offset_bounds-t-j
offset_bounds-t-j c =
    let found = c.request_among in
    let count = c.count_requests-m in
    record { fits = omega (arith, count.ensures.within, at-below count.result found.result c.in-Some.j found.ensures.within c.in-Some.is) }

pub bounds-t-j : goal.bounds-t-j
bounds-t-j c =
    let found = c.request_among in
    let count = c.count_requests-m in
    omega (arith, c.requires.0, count.ensures.within, at-below count.result found.result c.in-Some.j found.ensures.within c.in-Some.is)

pub returns-then-t-j : goal.returns-then-t-j
unfolding refusals
returns-then-t-j c =
    let found = c.request_among in
    let count = c.count_requests-m in
    let a = c.args in record {
      performs = (λ st sd rep same listed.
          let at = found_at (request_slot st.requests a.q) c.in-Some.j (found.ensures.found st (rep, count.ensures.counted st rep)) c.in-Some.is in
          by-number c.into-then-t-j.ensures (refused-agrees st (Revoke a.p a.q) rep same 7
          (revoke-other st a.p a.q (λ k. c.if-t-j.true ((request-words rep a.q c.in-Some.j at).asker ∙ k))) (λ z. absurd (omega arith))));
      long = (c.requires.0, c.requires.1);
    }

pub returns : goal.returns
unfolding refusals
returns c =
    let closed = c.close_request in
    let found = c.request_among in
    let count = c.count_requests-m in
    let a = c.args in record {
      performs = (λ st sd rep same listed.
          let at = found_at (request_slot st.requests a.q) c.in-Some.j (found.ensures.found st (rep, count.ensures.counted st rep)) c.in-Some.is in
          let own = sym (request-words rep a.q c.in-Some.j at).asker ∙ c.if-t-j.false in
          accepted-agrees st (Revoke a.p a.q) (revoke-own st a.p a.q (request-some rep a.q c.in-Some.j at).0 own)
          (revoked st a.p a.q _ (closed.ensures.closed st sd rep same)));
      long = closed.ensures.long;
    }
