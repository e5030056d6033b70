use Prim.Native.Nat.{ℕ, ◌-◌, ◌+◌, ◌*◌}
use native.Mathlib.Omega.{arith}
use mathlib.Core.Path.{◌≡◌}
use lib.ListN.{get_or}
use Rattle.soundness.proofs.Decides.{decides-more, decides_below, decides-part, decides-columns}
use Rattle.soundness.proofs.laid.columns_unused.Invariants.{Empty}
use Rattle.soundness.proofs.laid.columns_unused.Goals as goal

pub loop-c-preserved : goal.loop-c-preserved
loop-c-preserved c =
    let a = c.args in
    let t = a.t.now in
    let k = c.loop-c.c in
    let from : ℕ = a.start + k * a.size in
    let zero = c.zero_from-unused in
    decides-more (Empty t a.start a.size a.k) 0 k c.loop-c.unused zero.result (omega arith) c.loop-c.invariant
    (decides-part t a.k from (from + a.size - from) a.size (λ i. a.start + (k * a.size + i)) zero.result (omega arith) (λ i. omega arith) zero.ensures)

pub returns : goal.returns
returns c =
    let last = c.loop-c in
    let a = c.args in
    let t = a.t.now in
    decides-columns (λ c i. get_or t (a.start + (c * a.size + i)) 0 ≡ 0) a.k a.columns a.size last.unused
    (decides_below (Empty t a.start a.size a.k) a.columns last.c last.unused last.auto.c-end c.loop-c-test.false last.invariant)
