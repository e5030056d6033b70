-- `marks::is_marked`: the mark at the slot that is found; a number that a row has is found.
use native.Mathlib.Omega.{arith}
use mathlib.Core.Path.{◌∙◌}
use Rattle.rows.specs.Layout.{row_slot}
use Rattle.rows.proofs.Slots.{at-below, found_at, found_nothing}
use Rattle.changes.specs.vocabulary.Bits.{marks_in}
use Rattle.closing.proofs.MarksRequests.{unmarked-absent, marked-found}
use Rattle.closing.proofs.marks.is_marked.Goals as goal

pub returns-in_default : goal.returns-in_default
returns-in_default c =
    let a = c.args in
    let found = c.row_among in
    λ st g rep count marked there.
    unmarked-absent st g a.e there (found_nothing (row_slot st.rows a.e) (found.ensures.found st rep count) c.in_default.is)

pub is_set-requires : goal.is_set-requires
is_set-requires c =
    omega (arith, at-below c.args.n c.row_among.result c.in-Some.i c.row_among.ensures.within c.in-Some.is)

pub returns : goal.returns
returns c =
    let a = c.args in
    let i = c.in-Some.i in
    λ st g rep count marked there.
    c.is_set.ensures
    ∙ marked-found st g a.e (marks_in a.marks.now) marked i (found_at (row_slot st.rows a.e) i (c.row_among.ensures.found st rep count) c.in-Some.is)
