-- `refusals::refusal_of` meets its contract: one number after the other.
use mathlib.Core.Path.{sym, ◌∙◌}
use Rattle.joining.proofs.ListedNames.{missing-test, refused-missing, refused-crowded, refused-primes, refused_none}
use Rattle.std.proofs.Common.{ap}
use mathlib.Core.Bool.{not}
use Rattle.joining.proofs.refusals.refusal_of.Goals as goal

pub returns-then-not-listed : goal.returns-then-not-listed
returns-then-not-listed c = λ fs gs ha hb. refused-missing fs gs (sym (missing-test fs gs _ _ (c.text_listed.ensures fs gs ha hb fs ha) (c.text_listed-2.ensures fs gs ha hb gs hb)) ∙ (ap not c.if-not-listed.true))

pub returns-then-is_crowded : goal.returns-then-is_crowded
returns-then-is_crowded c =
    λ fs gs ha hb.
    let listed = sym (missing-test fs gs _ _ (c.text_listed.ensures fs gs ha hb fs ha) (c.text_listed-2.ensures fs gs ha hb gs hb)) ∙ (ap not c.if-not-listed.false) in
    refused-crowded fs gs listed (sym (c.is_crowded.ensures fs gs ha hb) ∙ c.if-is_crowded.true)

pub returns-then-primes_differ : goal.returns-then-primes_differ
returns-then-primes_differ c =
    λ fs gs ha hb.
    let listed = sym (missing-test fs gs _ _ (c.text_listed.ensures fs gs ha hb fs ha) (c.text_listed-2.ensures fs gs ha hb gs hb)) ∙ (ap not c.if-not-listed.false) in
    let room = sym (c.is_crowded.ensures fs gs ha hb) ∙ c.if-is_crowded.false in
    refused-primes fs gs listed room (sym (c.primes_differ.ensures fs gs ha hb) ∙ c.if-primes_differ.true)

pub returns : goal.returns
returns c =
    λ fs gs ha hb.
    let listed = sym (missing-test fs gs _ _ (c.text_listed.ensures fs gs ha hb fs ha) (c.text_listed-2.ensures fs gs ha hb gs hb)) ∙ (ap not c.if-not-listed.false) in
    let room = sym (c.is_crowded.ensures fs gs ha hb) ∙ c.if-is_crowded.false in
    refused_none fs gs listed room (sym (c.primes_differ.ensures fs gs ha hb) ∙ c.if-primes_differ.false)
