-- `request_clauses::slot_among` meets its contract: 0 is no row's number, and what the search finds is the slot.
use borrow.Author.Rules.{rules}
use native.Mathlib.Numerals.{add-one}
use native.Mathlib.Omega.{arith}
use mathlib.Core.Path.{ap, sym, ◌∙◌}
use Rattle.rows.specs.Layout.{row_slot}
use Rattle.soundness_loans.proofs.RequestClauses.{no_slot}
use Rattle.rows.proofs.Slots.{found_at, found_nothing, at-below}
use Rattle.soundness_loans.proofs.request_clauses.slot_among.Goals as goal

pub returns-then-x-eq0 : goal.returns-then-x-eq0
returns-then-x-eq0 c = record { within = search rules; found = (λ st rep e. sym (ap (row_slot st.rows) c.if-x-eq0.true ∙ no_slot rep)) }

pub returns-in_default : goal.returns-in_default
returns-in_default c = let f = c.row_among in
    let x = c.args.x in
    record { within = search rules; found = (λ st rep e. sym (found_nothing (row_slot st.rows x) (f.ensures.found st rep e) c.in_default.is)) }

pub overflow_add-result : goal.overflow_add-result
overflow_add-result c = let f = c.row_among in
    omega (arith, at-below c.args.n f.result c.in-Some.i f.ensures.within c.in-Some.is, c.requires.1)

pub returns : goal.returns
returns c = let f = c.row_among in
    let a = c.args in
    let i = c.in-Some.i in record { within = omega (arith, at-below a.n f.result i f.ensures.within c.in-Some.is); found = (λ st rep e. add-one i ∙ sym (found_at (row_slot st.rows a.x) i (f.ensures.found st rep e) c.in-Some.is)) }
