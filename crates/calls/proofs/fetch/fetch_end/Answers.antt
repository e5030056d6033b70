-- `fetch::fetch_end`: no server end, no request, or what the request gives.
use native.Mathlib.Omega.{arith}
use mathlib.Core.Bool.{not, ◌||◌}
use mathlib.Core.Path.{ap, sym, ◌∙◌}
use lib.Dec.{eqb}
use Rattle.rows.specs.Codes.{is_server}
use Rattle.rows.specs.Tables.{row_of}
use Rattle.rows.specs.vocabulary.Slots.{open_slot}
use Rattle.rows.proofs.Slots.{at-below, found_at, found_nothing, row-words}
use Rattle.calls.specs.Rules.{asked_of}
use Rattle.calls.specs.declared.Call.TheVariants.{Fetch}
use Rattle.calls.specs.Calls.{refusals}
use Rattle.rows.specs.Sound.{is_fetched}
use Rattle.rows.proofs.Bools.{or_l}
use Rattle.calls.proofs.Judging.{test-holds, test-fails, refused-answers}
use Rattle.calls.proofs.Refusing.{held, fetch-rest, no-server, is-server, asked-none}
use Rattle.calls.proofs.fetch.fetch_end.Goals as goal

pub returns-then-t-i-ne-A_SERVER_END : goal.returns-then-t-i-ne-A_SERVER_END
unfolding refusals
returns-then-t-i-ne-A_SERVER_END c =
    let a = c.args in record {
      answers = (λ st e sd h m few.
          let kind = (row_of st.rows e).kind in
          let other = no-server kind (λ k. c.if-t-i-ne-A_SERVER_END.true ((row-words h.0 e a.i m.0).kind ∙ k)) in
          refused-answers st (Fetch a.p e) h.0 8 (test-holds (not (is_server kind)) 8 _ other ∙ sym (fetch-rest st e a.p (held st a.p e m.1))) (λ z. absurd (omega arith)));
      long = c.requires.0;
    }

pub returns-in_default : goal.returns-in_default
unfolding refusals
returns-in_default c =
    let found = c.asked_at in
    let a = c.args in record {
      answers = (λ st e sd h m few.
          let kind = (row_of st.rows e).kind in
          let v = asked_of st e in
          let server = is-server kind (sym (row-words h.0 e a.i m.0).kind ∙ c.if-t-i-ne-A_SERVER_END.false) in
          let none = found_nothing (open_slot st.requests (row_of st.rows e).object)
          (found.ensures.found st e (h.0, c.count_requests-m.ensures.counted st h.0) m.0) c.in_default.is in
          refused-answers st (Fetch a.p e) h.0 11
          (test-fails (not (is_server kind)) 8 (ap not server) (test-holds (eqb v.number 0 || is_fetched v) 11 _ (or_l (eqb v.number 0) (is_fetched v) (asked-none st e none)))
          ∙ sym (fetch-rest st e a.p (held st a.p e m.1))) (λ z. absurd (omega arith)));
      long = c.requires.0;
    }

pub fetch_request-requires : goal.fetch_request-requires
fetch_request-requires c =
    let found = c.asked_at in
    let count = c.count_requests-m in
    (c.requires.0, c.requires.1, omega (arith, count.ensures.within, at-below count.result found.result c.in-Some.j found.ensures.within c.in-Some.is))

pub returns : goal.returns
returns c =
    let fetched = c.fetch_request in
    let found = c.asked_at in
    let count = c.count_requests-m in
    let a = c.args in record {
      answers = (λ st e sd h m few.
          let kind = (row_of st.rows e).kind in
          let server = is-server kind (sym (row-words h.0 e a.i m.0).kind ∙ c.if-t-i-ne-A_SERVER_END.false) in
          let slot = found_at (open_slot st.requests (row_of st.rows e).object) c.in-Some.j (found.ensures.found st e (h.0, count.ensures.counted st h.0) m.0) c.in-Some.is in
          fetched.ensures.answers st e sd h (m.1, server, slot) few);
      long = fetched.ensures.long;
    }
