-- `request_clauses::word_at` meets its contract.
use Prim.Native.Nat.{suc, ◌-◌}
use native.Mathlib.Omega.{arith}
use mathlib.Core.Path.{◌≡◌, ap, sym}
use Rattle.soundness_loans.specs.vocabulary.Clauses.{word_at}
use Rattle.soundness_loans.proofs.request_clauses.word_at.Goals as goal

pub returns-then-s-eq0 : goal.returns-then-s-eq0
unfolding word_at
returns-then-s-eq0 c = let a = c.args in sym (ap (word_at a.t.now a.c) c.if-s-eq0.true)

pub returns : goal.returns
unfolding word_at
returns c = let a = c.args in
    let e : a.s ≡ suc (a.s - 1) = omega (arith, c.if-s-eq0.false) in sym (ap (word_at a.t.now a.c) e)
