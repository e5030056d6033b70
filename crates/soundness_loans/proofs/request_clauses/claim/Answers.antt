-- `request_clauses::claim` meets its contract.
use Prim.Native.Nat.{suc, ◌-◌}
use native.Mathlib.Omega.{arith}
use mathlib.Core.Path.{◌≡◌, ap, sym}
use Rattle.soundness_loans.specs.vocabulary.Clauses.{is_free, with_mark}
use Rattle.soundness_loans.proofs.request_clauses.claim.Goals as goal

pub returns-then-s-eq0 : goal.returns-then-s-eq0
unfolding is_free with_mark
returns-then-s-eq0 c = let s = c.args in record { free = sym (ap (is_free s.marks.now) c.if-s-eq0.true); marked = sym (ap (with_mark s.marks.now) c.if-s-eq0.true) }

pub returns : goal.returns
unfolding is_free with_mark
returns c = let s = c.args in
    let e : s.s ≡ suc (s.s - 1) = omega (arith, c.if-s-eq0.false) in record { free = sym (ap (is_free s.marks.now) e); marked = sym (ap (with_mark s.marks.now) e) }
