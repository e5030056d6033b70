use Rattle.std.proofs.Common.{◌≡◌, ℕ, ◌+◌, ◌-◌, ◌<◌, length, take, drop, add-one, arith, length-drop, take_all, sym, ◌∙◌, refl}
use Rattle.soundness_loans.proofs.RequestClauses.{apart-more, apart-passed}
use Rattle.soundness_loans.proofs.request_clauses.items_apart.Goals as goal

pub loop-k-init : goal.loop-k-init
loop-k-init c = refl

pub loop-k-preserved : goal.loop-k-preserved
loop-k-preserved c =
    let l = c.loop-k in
    let es = c.args.items in
    let lt : l.k < length es = omega arith in
    let whole : take (4 - (l.k + 1)) (drop (l.k + 1) es) ≡ drop (l.k + 1) es = take_all (4 - (l.k + 1)) (drop (l.k + 1) es) (omega (arith, length-drop {A = ℕ})) in
    rw (c.item_apart-apart.ensures, whole, add-one) (apart-more l.apart l.k es lt ∙ l.invariant)

pub returns : goal.returns
returns c =
    let l = c.loop-k in
    sym (apart-passed l.apart l.k c.args.items (omega arith)) ∙ l.invariant
