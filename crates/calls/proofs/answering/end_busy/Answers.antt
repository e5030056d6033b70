-- `answering::end_busy`: no end, no request, a request.
use native.Mathlib.Omega.{arith}
use mathlib.Core.Path.{◌∙◌}
use Rattle.rows.specs.Tables.{row_of}
use Rattle.rows.proofs.Slots.{at-below}
use Rattle.calls.proofs.Refusing.{open-told}
use Rattle.calls.proofs.LentEnds.{no_end, an-end, and_both, and_first}
use Rattle.calls.proofs.answering.end_busy.Goals as goal

pub returns-in_default : goal.returns-in_default
returns-in_default c =
    let found = c.end_at in
    let a = c.args in
    λ st h. and_first _ (no_end st a.e found.result (found.ensures.found st (h.0, h.1)) c.in_default.is)

pub asked_at-requires : goal.asked_at-requires
asked_at-requires c =
    let found = c.end_at in
    (c.requires.0, c.requires.2, omega (arith, c.requires.1, at-below c.args.n found.result c.in-Some.i found.ensures.within c.in-Some.is))

pub returns : goal.returns
returns c =
    let asked = c.asked_at in
    let found = c.end_at in
    let a = c.args in
    λ st h.
    let (at, end) = an-end st a.e h.0 found.result c.in-Some.i (found.ensures.found st (h.0, h.1)) c.in-Some.is in
    and_both end (c.is_some.ensures ∙ open-told st (row_of st.rows a.e).object h.0 asked.result (asked.ensures.found st a.e (h.0, h.2) at))
