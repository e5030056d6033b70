-- `lookups::kernel_open_on` meets its contract: words of another length hold no state; else the look-up's answer, plus 1.
use borrow.Author.Rules.{rules}
use native.Mathlib.Omega.{arith}
use mathlib.Core.Path.{refl}
use Rattle.rows.specs.Layout.{requests_in}
use Rattle.rows.specs.vocabulary.Slots.{open_slot}
use Rattle.rows.proofs.Slots.{at-below, request-below, represented-length}
use Rattle.test_exports.proofs.Answers.{plus_one, zero-slot}
use Rattle.test_exports.proofs.lookups.kernel_open_on.Goals as goal

pub returns-then-t-ne-TABLES : goal.returns-then-t-ne-TABLES
returns-then-t-ne-TABLES c = record { within = search rules; found = (λ st rep. absurd (c.if-t-ne-TABLES.true (represented-length rep))); other = (λ not. refl) }

pub returns-in_default : goal.returns-in_default
returns-in_default c =
    let a = c.args in
    let found = c.open_on in
    let none = c.in_default.is in
    record { within = search rules; found = (λ st rep. zero-slot (open_slot st.requests a.c) (found.ensures.found st rep) none); other = (λ not. refl) }

pub overflow_add-result : goal.overflow_add-result
overflow_add-result c =
    let a = c.args in
    let found = c.open_on in
    omega (arith, request-below a.t.now found.result c.in-Some.j found.ensures.within c.in-Some.is)

pub returns : goal.returns
returns c =
    let a = c.args in
    let found = c.open_on in
    let j = c.in-Some.j in record { within = omega (arith, at-below (requests_in a.t.now) found.result j found.ensures.within c.in-Some.is); found = (λ st rep. plus_one (open_slot st.requests a.c) j (found.ensures.found st rep) c.in-Some.is); other = (λ not. absurd (not c.if-t-ne-TABLES.false)) }
