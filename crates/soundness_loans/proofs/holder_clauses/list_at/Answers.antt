-- `holder_clauses::list_at` meets its contract.
use Prim.Native.Nat.{ℕ, suc, ◌-◌}
use native.Mathlib.Omega.{arith}
use mathlib.Core.Path.{◌≡◌, ap, sym, ◌∙◌}
use Rattle.soundness_loans.specs.vocabulary.Clauses.{list_at}
use Rattle.soundness_loans.proofs.HolderClauses.{list-free, list-kept}
use Rattle.soundness_loans.proofs.holder_clauses.list_at.Goals as goal

pub returns-then-s-eq0 : goal.returns-then-s-eq0
unfolding list_at
returns-then-s-eq0 c = let a = c.args in sym (ap (λ (s : ℕ). list_at a.code s a.listing.now) c.if-s-eq0.true)

pub returns-then-listing-i-eq0 : goal.returns-then-listing-i-eq0
unfolding list_at
returns-then-listing-i-eq0 c = let a = c.args in
    let e : a.s ≡ suc (a.s - 1) = omega (arith, c.if-s-eq0.false) in
    sym (ap (λ (s : ℕ). list_at a.code s a.listing.now) e ∙ list-free a.code (a.s - 1) a.listing.now c.if-listing-i-eq0.true)

pub returns-else-listing-i-eq0 : goal.returns-else-listing-i-eq0
unfolding list_at
returns-else-listing-i-eq0 c = let a = c.args in
    let e : a.s ≡ suc (a.s - 1) = omega (arith, c.if-s-eq0.false) in
    sym (ap (λ (s : ℕ). list_at a.code s a.listing.now) e ∙ list-kept a.code (a.s - 1) a.listing.now c.if-listing-i-eq0.false)
