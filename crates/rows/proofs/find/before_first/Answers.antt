use Rattle.std.proofs.Common.{◌≡◌, ℕ, ◌<◌, ◌≤◌, Bool, true, false, ⊎_elim, List, length, get_or, take, sym, arith, length-take-le, get_or-take, ◌∙◌}
use Rattle.std.specs.List.{list_any, position_or_len}
use Rattle.std.proofs.lemmas.Bool.{cases_Bool}
use Rattle.std.proofs.lemmas.List.Folds.{list_any_at}
use Rattle.std.proofs.lemmas.List.Sums.{position_or_len_is}
use Rattle.rows.proofs.Bools.{clash}
use Rattle.rows.proofs.find.before_first.Goals as goal

-- of none before i the test holds, and of the one at i it does
first-at : {X : Type 0} (p : X → Bool) (xs : List X) (i : ℕ) (d : X) → i ≤ length xs → list_any p (take i xs) ≡ false → (i < length xs → p (get_or xs i d) ≡ true) → i ≡ position_or_len p xs
first-at {X} p xs i d le none here = sym (position_or_len_is p xs i d le before here)
  where
    before : (k : ℕ) → k < i → p (get_or xs k d) ≡ false
    before k lt =
        ⊎_elim (λ t. clash (list_any_at p (take i xs) k d (omega (arith, length-take-le i xs le)) (rw (get_or-take i xs k d lt) t)) none) (λ f. f) (cases_Bool (p (get_or xs k d)))

pub returns-then-eq-clause-counted : goal.returns-then-eq-clause-counted
returns-then-eq-clause-counted g c =
    first-at (λ (y : g.row.T.Denot). g.T.PartialEq.eq y c.args.x.now) c.args.xs.now c.loop-i.i c.index-xs-i.result (omega arith) c.loop-i.invariant
    (λ _. rw (← c.index-xs-i.is) (sym c.eq.ensures ∙ c.if-eq.true))

pub returns-clause-counted : goal.returns-clause-counted
returns-clause-counted g c =
    let whole : c.loop-i.i ≡ length c.args.xs.now = omega arith in
    first-at (λ (y : g.row.T.Denot). g.T.PartialEq.eq y c.args.x.now) c.args.xs.now (length c.args.xs.now) c.args.x.now (omega arith) (rw whole at c.loop-i.invariant) (λ h. absurd (omega arith))
