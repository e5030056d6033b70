-- No pair; no such row, no such request; or the mark of the pair.
use Prim.Native.Nat.{ℕ, ◌+◌}
use mathlib.Core.Path.{ap, ◌∙◌}
use native.Mathlib.Omega.{arith}
use Rattle.rows.specs.Layout.{row_slot}
use Rattle.rows.specs.vocabulary.Slots.{request_slot}
use Rattle.rows.proofs.Slots.{at-below, found_at, found_nothing}
use Rattle.calls.proofs.Refusing.{comes-no-row, comes-no-request, comes-both, row-some, request-some}
use Rattle.calls.proofs.PairsTold.{byte-few, no-pair, not-told, told-by, mark-told}
use Rattle.calls.proofs.comes_all.tell.Goals as goal

pub returns-then-e-eq0 : goal.returns-then-e-eq0
returns-then-e-eq0 c = λ st qs so rows requests right is. no-pair st _ _ c.if-e-eq0.true

pub returns-in_default : goal.returns-in_default
returns-in_default c =
    let found = c.row_among in
    let a = c.args in
    λ st qs so rows requests right is.
    let none = found_nothing (row_slot st.rows a.e) (found.ensures.found st rows.0 rows.1) c.in_default.is in
    not-told st a.e a.q c.if-e-eq0.false (comes-no-row st a.e a.q none)

pub returns-in_default-request_among : goal.returns-in_default-request_among
returns-in_default-request_among c =
    let found = c.request_among in
    let a = c.args in
    λ st qs so rows requests right is.
    let none = found_nothing (request_slot st.requests a.q) (found.ensures.found st requests) c.in_default-request_among.is in
    not-told st a.e a.q c.if-e-eq0.false (comes-no-request st a.e a.q none)

pub is_marked-comes-requires : goal.is_marked-comes-requires
is_marked-comes-requires c =
    let found = c.row_among in
    (omega (arith, at-below c.args.n found.result c.in-Some.i found.ensures.within c.in-Some.is, c.requires.1), c.requires.3)

pub overflow_add-result : goal.overflow_add-result
overflow_add-result c = record { fits = omega (arith, c.from.ensures, byte-few c.is_marked-comes.result) }

pub returns : goal.returns
returns c =
    let request = c.request_among in
    let row = c.row_among in
    let a = c.args in
    λ st qs so rows requests right is.
    let at = found_at (row_slot st.rows a.e) c.in-Some.i (row.ensures.found st rows.0 rows.1) c.in-Some.is in
    let there = found_at (request_slot st.requests a.q) c.in-Some-request_among.field-0 (request.ensures.found st requests) c.in-Some-request_among.is in
    let (number, known) = request-some rows.0 a.q c.in-Some-request_among.field-0 there in
    ap (λ (k : ℕ). 1 + k) c.from.ensures ∙ told-by st a.e a.q c.if-e-eq0.false (comes-both st a.e a.q (row-some rows.0 a.e c.in-Some.i at).0 number) c.is_marked-comes.result
    (c.is_marked-comes.ensures ∙ mark-told st qs a.marks.now a.e c.in-Some.i a.k a.q so rows right at c.requires.3 is known)
