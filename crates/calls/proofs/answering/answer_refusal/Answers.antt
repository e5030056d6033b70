-- `answering::answer_refusal`: nothing where it was not served; else one return a test.
use mathlib.Core.Bool.{Bool, not, ◌||◌}
use mathlib.Core.Path.{refl, ap, sym, ◌∙◌}
use borrow.Author.Tests.{eq-eqb, ne_eqb}
use lib.Dec.{eqb}
use Rattle.rows.specs.declared.Request.{Request}
use Rattle.rows.specs.Lists.{any}
use Rattle.rows.specs.Codes.{is_server}
use Rattle.rows.specs.Tables.{row_of}
use Rattle.rows.specs.Sound.{is_fetched}
use Rattle.rows.proofs.Bools.{or_r}
use Rattle.rows.proofs.Slots.{raw-open}
use Rattle.calls.specs.Rules.{has_open, asked_of}
use Rattle.calls.specs.Calls.{lent_ends, is_away}
use Rattle.calls.proofs.Judging.{test-holds, test-fails}
use Rattle.calls.proofs.Refusing.{held, asked-some, both-fail}
use Rattle.calls.proofs.LentEnds.{answer-served, answer-declined}
use Rattle.calls.proofs.answering.answer_refusal.Goals as goal

pub returns-then-not-served : goal.returns-then-not-served
returns-then-not-served c =
    let a = c.args in
    λ st e h m few.
    let no = answer-declined st a.p e a.served (held st a.p e m.0) c.if-not-served.true in
    test-fails (not (is_server (row_of st.rows e).kind)) 8 (ap not m.1) (test-fails (eqb (asked_of st e).number 0) 11 (asked-some st e h.0 a.j m.2) refl) ∙ sym no

pub returns-then-any_busy : goal.returns-then-any_busy
unfolding asked_of
returns-then-any_busy c =
    let read = c.request_at-v in
    let a = c.args in
    λ st e h m few.
    let v = asked_of st e in
    let yes = answer-served st a.p e a.served (held st a.p e m.0) c.if-not-served.false in
    let same = read.ensures ∙ raw-open h.0 (row_of st.rows e).object a.j m.2 in
    let busy : Request → Bool = λ w. any (λ x. has_open st (row_of st.rows x).object) (lent_ends st w) in
    let b = ap busy (sym same) ∙ sym (c.any_busy.ensures st h) ∙ c.if-any_busy.true in
    test-fails (not (is_server (row_of st.rows e).kind)) 8 (ap not m.1) (test-holds (busy v) 10 _ b) ∙ sym yes

pub returns-then-v-ne1 : goal.returns-then-v-ne1
unfolding asked_of is_fetched
returns-then-v-ne1 c =
    let read = c.request_at-v in
    let a = c.args in
    λ st e h m few.
    let v = asked_of st e in
    let yes = answer-served st a.p e a.served (held st a.p e m.0) c.if-not-served.false in
    let same = read.ensures ∙ raw-open h.0 (row_of st.rows e).object a.j m.2 in
    let busy : Request → Bool = λ w. any (λ x. has_open st (row_of st.rows x).object) (lent_ends st w) in
    let b = ap busy (sym same) ∙ sym (c.any_busy.ensures st h) ∙ c.if-any_busy.false in
    let new = ne_eqb v.fetched 1 (λ k. c.if-v-ne1.true (ap (λ (w : Request). w.fetched) same ∙ k)) in
    test-fails (not (is_server (row_of st.rows e).kind)) 8 (ap not m.1)
    (test-fails (busy v) 10 b (test-holds (eqb v.number 0 || not (is_fetched v)) 11 _ (or_r (eqb v.number 0) (not (is_fetched v)) (ap not new))))
    ∙ sym yes

pub returns-then-any_away : goal.returns-then-any_away
unfolding asked_of is_fetched
returns-then-any_away c =
    let read = c.request_at-v in
    let a = c.args in
    λ st e h m few.
    let v = asked_of st e in
    let yes = answer-served st a.p e a.served (held st a.p e m.0) c.if-not-served.false in
    let same = read.ensures ∙ raw-open h.0 (row_of st.rows e).object a.j m.2 in
    let busy : Request → Bool = λ w. any (λ x. has_open st (row_of st.rows x).object) (lent_ends st w) in
    let gone : Request → Bool = λ w. any (is_away st a.p w) (lent_ends st w) in
    let b = ap busy (sym same) ∙ sym (c.any_busy.ensures st h) ∙ c.if-any_busy.false in
    let once = eq-eqb v.fetched 1 (ap (λ (w : Request). w.fetched) (sym same) ∙ c.if-v-ne1.false) in
    let out = ap gone (sym same) ∙ sym (c.any_away.ensures st h few) ∙ c.if-any_away.true in
    test-fails (not (is_server (row_of st.rows e).kind)) 8 (ap not m.1)
    (test-fails (busy v) 10 b (test-fails (eqb v.number 0 || not (is_fetched v)) 11 (both-fail (asked-some st e h.0 a.j m.2) (ap not once)) (test-holds (gone v) 14 _ out)))
    ∙ sym yes

pub returns : goal.returns
unfolding asked_of is_fetched
returns c =
    let read = c.request_at-v in
    let a = c.args in
    λ st e h m few.
    let v = asked_of st e in
    let yes = answer-served st a.p e a.served (held st a.p e m.0) c.if-not-served.false in
    let same = read.ensures ∙ raw-open h.0 (row_of st.rows e).object a.j m.2 in
    let busy : Request → Bool = λ w. any (λ x. has_open st (row_of st.rows x).object) (lent_ends st w) in
    let gone : Request → Bool = λ w. any (is_away st a.p w) (lent_ends st w) in
    let b = ap busy (sym same) ∙ sym (c.any_busy.ensures st h) ∙ c.if-any_busy.false in
    let once = eq-eqb v.fetched 1 (ap (λ (w : Request). w.fetched) (sym same) ∙ c.if-v-ne1.false) in
    let all = ap gone (sym same) ∙ sym (c.any_away.ensures st h few) ∙ c.if-any_away.false in
    test-fails (not (is_server (row_of st.rows e).kind)) 8 (ap not m.1)
    (test-fails (busy v) 10 b (test-fails (eqb v.number 0 || not (is_fetched v)) 11 (both-fail (asked-some st e h.0 a.j m.2) (ap not once)) (test-fails (gone v) 14 all refl)))
    ∙ sym yes
