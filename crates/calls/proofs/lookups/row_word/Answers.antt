-- `lookups::row-word`: the slot that is found, plus 1.
use borrow.Author.Rules.{rules}
use native.Mathlib.Omega.{arith}
use native.Mathlib.Numerals.{add-one}
use mathlib.Core.Path.{sym, ◌∙◌}
use Rattle.rows.specs.Layout.{row_slot}
use Rattle.rows.proofs.Slots.{at-below, found_at, found_nothing}
use Rattle.calls.proofs.lookups.row_word.Goals as goal

pub returns-in_default : goal.returns-in_default
returns-in_default c =
    let a = c.args in
    let found = c.row_among in
    record { within = search rules; word = (λ st h. sym (found_nothing (row_slot st.rows a.e) (found.ensures.found st h.0 h.1) c.in_default.is)) }

pub overflow_add-result : goal.overflow_add-result
overflow_add-result c =
    let found = c.row_among in
    record { fits = omega (arith, c.requires.1, at-below c.args.n found.result c.in-Some.i found.ensures.within c.in-Some.is) }

pub overflow_cast-result : goal.overflow_cast-result
overflow_cast-result c =
    let found = c.row_among in
    record { fits = omega (arith, c.requires.1, at-below c.args.n found.result c.in-Some.i found.ensures.within c.in-Some.is) }

pub returns : goal.returns
returns c =
    let found = c.row_among in
    record { within = omega (arith, at-below c.args.n found.result c.in-Some.i found.ensures.within c.in-Some.is); word = (λ st h. add-one c.in-Some.i ∙ sym (found_at (row_slot st.rows c.args.e) c.in-Some.i (found.ensures.found st h.0 h.1) c.in-Some.is)) }
