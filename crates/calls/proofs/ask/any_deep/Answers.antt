-- `ask::any_deep`: the items joined.
use borrow.Author.Rules.{rules}
use mathlib.Core.Bool.{true, false, ◌&&◌}
use mathlib.Core.Path.{◌≡◌, ◌∙◌}
use Rattle.std.proofs.lemmas.Iterator.{YieldsList-from_slice, cases_from_any}
use Rattle.calls.specs.Rules.{too_deep}
use Rattle.calls.specs.Loans.{copy_depth}
use Rattle.calls.specs.vocabulary.Asks.{is_copy, ItemHeld}
use Rattle.calls.proofs.Joined.{any-cases}
use Rattle.calls.proofs.Asked.{any_copied}
use Rattle.calls.proofs.ask.any_deep.Goals as goal

pub returns : goal.returns
returns c =
    let xs = c.args.items in
    λ st p port sd rep at h.
    any-cases (ItemHeld st p) (λ x. is_copy st x.item && too_deep (copy_depth st port x.item)) xs _ h
    (cases_from_any _ _ _ (λ x. ItemHeld st p x → true ≡ (is_copy st x.item && too_deep (copy_depth st port x.item))) (λ x. ItemHeld st p x → false ≡ (is_copy st x.item && too_deep (copy_depth st port x.item))) c.any.ensures.ran (YieldsList-from_slice xs cc)
    (λ x q k held. search (rules, sd, rep, at, held)) (λ x q k. (search rules, λ held. search (rules, sd, rep, at, held))))
    ∙ any_copied st (λ i. too_deep (copy_depth st port i)) xs
