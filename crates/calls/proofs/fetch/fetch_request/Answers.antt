-- `fetch::fetch_request`: fetched before, or handed over.
use native.Mathlib.Omega.{arith}
use mathlib.Core.Bool.{not, ◌||◌}
use mathlib.Core.Path.{refl, ap, sym, ◌∙◌}
use lib.Dec.{eqb}
use Rattle.rows.specs.Codes.{is_server}
use Rattle.rows.specs.Tables.{row_of}
use Rattle.calls.specs.Rules.{asked_of}
use Rattle.rows.specs.declared.Request.{Request}
use Rattle.rows.specs.Sound.{is_fetched}
use borrow.Author.Tests.{eq-eqb, ne_eqb}
use Rattle.rows.proofs.Bools.{or_r}
use Rattle.rows.proofs.Slots.{raw-open}
use Rattle.calls.specs.declared.Call.TheVariants.{Fetch}
use Rattle.calls.specs.Calls.{refusals}
use Rattle.calls.proofs.Judging.{test-holds, test-fails, refused-answers, accepted-answers}
use Rattle.calls.proofs.Refusing.{held, fetch-rest, asked-some, both-fail}
use Rattle.calls.proofs.Effected.{fetched-request}
use Rattle.calls.proofs.fetch.fetch_request.Goals as goal

pub returns-then-v-eq1 : goal.returns-then-v-eq1
unfolding refusals asked_of is_fetched
returns-then-v-eq1 c =
    let read = c.request_at-v in
    let a = c.args in record {
      answers = (λ st e sd h m few.
          let kind = (row_of st.rows e).kind in
          let v = asked_of st e in
          let same = read.ensures ∙ raw-open h.0 (row_of st.rows e).object a.j m.2 in
          let once = eq-eqb v.fetched 1 (ap (λ (w : Request). w.fetched) (sym same) ∙ c.if-v-eq1.true) in
          refused-answers st (Fetch a.p e) h.0 11
          (test-fails (not (is_server kind)) 8 (ap not m.1) (test-holds (eqb v.number 0 || is_fetched v) 11 _ (or_r (eqb v.number 0) (is_fetched v) once))
          ∙ sym (fetch-rest st e a.p (held st a.p e m.0))) (λ z. absurd (omega arith)));
      long = c.requires.0;
    }

pub returns : goal.returns
unfolding refusals asked_of is_fetched
returns c =
    let over = c.hand_over in
    let read = c.request_at-v in
    let a = c.args in record {
      answers = (λ st e sd h m few.
          let kind = (row_of st.rows e).kind in
          let port = (row_of st.rows e).object in
          let v = asked_of st e in
          let same = read.ensures ∙ raw-open h.0 port a.j m.2 in
          let new = ne_eqb v.fetched 1 (λ k. c.if-v-eq1.false (ap (λ (w : Request). w.fetched) same ∙ k)) in
          let none = test-fails (not (is_server kind)) 8 (ap not m.1) (test-fails (eqb v.number 0 || is_fetched v) 11 (both-fail (asked-some st e h.0 a.j m.2) new) refl)
          ∙ sym (fetch-rest st e a.p (held st a.p e m.0)) in
          accepted-answers st (Fetch a.p e) none _ (fetched-request st a.p e read.result same (over.ensures.handed st port h m.2 few)));
      long = over.ensures.long;
    }
