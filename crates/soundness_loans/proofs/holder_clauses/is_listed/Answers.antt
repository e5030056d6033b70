-- `holder_clauses::is_listed` meets its contract.
use Prim.Native.Nat.{ℕ, suc, ◌-◌}
use native.Mathlib.Omega.{arith}
use mathlib.Core.Path.{◌≡◌, ap, sym}
use Rattle.soundness_loans.specs.vocabulary.Clauses.{code_at}
use Rattle.rows.specs.Lists.{some}
use Rattle.soundness_loans.proofs.holder_clauses.is_listed.Goals as goal

pub returns-then-s-eq0 : goal.returns-then-s-eq0
unfolding some code_at
returns-then-s-eq0 c = let a = c.args in sym (ap (λ (s : ℕ). some (code_at a.listing.now s)) c.if-s-eq0.true)

pub returns : goal.returns
unfolding some code_at
returns c = let a = c.args in
    let e : a.s ≡ suc (a.s - 1) = omega (arith, c.if-s-eq0.false) in sym (ap (λ (s : ℕ). some (code_at a.listing.now s)) e)
