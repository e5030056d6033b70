-- `answering::end_away`: no end, an end elsewhere, or newer requests decide.
use mathlib.Core.Path.{sym, ◌∙◌}
use Rattle.rows.specs.Codes.{in_clist}
use Rattle.calls.proofs.LookedUp.{found_in}
use Rattle.calls.proofs.Judging.{not-in-clist}
use Rattle.calls.proofs.Refusing.{held, not-held, row-some}
use Rattle.calls.proofs.LentEnds.{no_end, an-end, away, with-caller, and_both, and_first}
use Rattle.calls.proofs.answering.end_away.Goals as goal

pub returns-in_default : goal.returns-in_default
returns-in_default c =
    let found = c.end_at in
    let a = c.args in
    λ st v h few same. and_first _ (no_end st a.e found.result (found.ensures.found st (h.0, h.1)) c.in_default.is)

pub returns-in_default-held_by : goal.returns-in_default-held_by
returns-in_default-held_by c =
    let kept = c.held_by in
    let found = c.end_at in
    let a = c.args in
    λ st v h few same.
    let (at, end) = an-end st a.e h.0 found.result c.in-Some.field-0 (found.ensures.found st (h.0, h.1)) c.in-Some.is in
    let none = not-in-clist st a.p a.e kept.result (kept.ensures.found st (h.0, h.1) few) c.in_default-held_by.is in
    and_both end (sym (away st a.e a.p v (not-held st a.p a.e none)))

pub returns : goal.returns
returns c =
    let kept = c.held_by in
    let found = c.end_at in
    let a = c.args in
    λ st v h few same.
    let (at, end) = an-end st a.e h.0 found.result c.in-Some.field-0 (found.ensures.found st (h.0, h.1)) c.in-Some.is in
    let (slot, here) = found_in st (in_clist a.p) a.e kept.result c.in-Some-held_by.field-0 (kept.ensures.found st (h.0, h.1) few) c.in-Some-held_by.is in
    and_both end (c.listed_newer.ensures st h.0 h.2 (row-some h.0 a.e c.in-Some.field-0 at).1 ∙ sym (with-caller st a.e a.p v (held st a.p a.e here) a.q same))
