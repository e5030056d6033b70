-- `ask::any_lacks`: the items joined.
use borrow.Author.Rules.{rules}
use mathlib.Core.Bool.{true, false, ◌&&◌}
use mathlib.Core.Path.{◌≡◌, ◌∙◌}
use Rattle.std.proofs.lemmas.Iterator.{YieldsList-from_slice, cases_from_any}
use Rattle.rows.specs.Lists.{some}
use Rattle.calls.specs.Calls.{lacks_right}
use Rattle.calls.specs.vocabulary.Asks.{ItemHeld}
use Rattle.calls.proofs.Joined.{any-cases}
use Rattle.calls.proofs.Asked.{any-named}
use Rattle.calls.proofs.ask.any_lacks.Goals as goal

pub returns : goal.returns
returns c =
    let xs = c.args.items in
    λ st p rep h.
    any-cases (ItemHeld st p) (λ x. some x.item.row && lacks_right st x.item) xs _ h
    (cases_from_any _ _ _ (λ x. ItemHeld st p x → true ≡ (some x.item.row && lacks_right st x.item)) (λ x. ItemHeld st p x → false ≡ (some x.item.row && lacks_right st x.item)) c.any.ensures.ran (YieldsList-from_slice xs cc)
    (λ x q k held. search (rules, rep, held)) (λ x q k. (search rules, λ held. search (rules, rep, held))))
    ∙ any-named (lacks_right st) xs
