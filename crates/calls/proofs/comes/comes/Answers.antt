-- `comes::comes`: no such row, no such request, or the answer.
use native.Mathlib.Omega.{arith}
use Rattle.rows.specs.Layout.{row_slot}
use Rattle.rows.specs.vocabulary.Slots.{request_slot}
use Rattle.rows.proofs.Slots.{at-below, found_at, found_nothing}
use Rattle.calls.specs.declared.Call.TheVariants.{Comes}
use Rattle.calls.specs.Calls.{refusals}
use Rattle.calls.proofs.Judging.{by-number, refused-agrees, accepted-agrees}
use Rattle.calls.proofs.Refusing.{comes-no-row, comes-no-request, comes-both, row-some, request-some}
use Rattle.calls.proofs.Effected.{told-comes}
use Rattle.calls.proofs.comes.comes.Goals as goal

pub returns-in_default : goal.returns-in_default
unfolding refusals
returns-in_default c =
    let found = c.row_among in
    let count = c.count_rows-n in
    let a = c.args in
    λ ps st sd rep same listed.
    let none = found_nothing (row_slot st.rows a.e) (found.ensures.found st rep (count.ensures.counted st rep)) c.in_default.is in
    by-number c.into.ensures (refused-agrees st (Comes a.e a.q) rep same 7 (comes-no-row st a.e a.q none) (λ z. absurd (omega arith)))

pub returns-in_default-request_among : goal.returns-in_default-request_among
unfolding refusals
returns-in_default-request_among c =
    let found = c.request_among in
    let count = c.count_requests-m in
    let a = c.args in
    λ ps st sd rep same listed.
    let none = found_nothing (request_slot st.requests a.q) (found.ensures.found st (rep, count.ensures.counted st rep)) c.in_default-request_among.is in
    by-number c.into-in_default-request_among.ensures (refused-agrees st (Comes a.e a.q) rep same 7 (comes-no-request st a.e a.q none) (λ z. absurd (omega arith)))

pub comes-told-requires : goal.comes-told-requires
comes-told-requires c =
    let found = c.row_among in
    let count = c.count_rows-n in
    (c.requires, omega (arith, count.ensures.within, at-below count.result found.result c.in-Some.i found.ensures.within c.in-Some.is))

pub returns : goal.returns
unfolding refusals
returns c =
    let request = c.request_among in
    let requests = c.count_requests-m in
    let row = c.row_among in
    let rows = c.count_rows-n in
    let a = c.args in
    λ ps st sd rep same listed.
    let at = found_at (row_slot st.rows a.e) c.in-Some.i (row.ensures.found st rep (rows.ensures.counted st rep)) c.in-Some.is in
    let there = found_at (request_slot st.requests a.q) c.in-Some-request_among.field-0 (request.ensures.found st (rep, requests.ensures.counted st rep)) c.in-Some-request_among.is in
    let (number, known) = request-some rep a.q c.in-Some-request_among.field-0 there in
    accepted-agrees st (Comes a.e a.q) (comes-both st a.e a.q (row-some rep a.e c.in-Some.i at).0 number)
    (told-comes st a.e a.q c.comes-told.result rep same (c.comes-told.ensures st a.e sd rep at known))
