use Prim.Native.Nat.{ℕ, ◌<◌}
use native.Mathlib.Omega.{arith}
use mathlib.Core.Path.{◌≡◌, subst}
use lib.ListN.{length}
use Rattle.soundness_loans.proofs.RequestClauses.{number_word}
use Rattle.soundness_loans.proofs.NumbersApart.{Walked, walk_start, walk-next, walk_end}
use Rattle.soundness_loans.proofs.request_clauses.numbers_apart.Goals as goal

pub loop-j-init : goal.loop-j-init
loop-j-init c = (omega arith, omega arith, (λ st rep e d. walk_start rep))

pub loop-j-preserved : goal.loop-j-preserved
loop-j-preserved c =
    let first = c.first_not_below-s in
    let turn = c.loop-j in
    let a = c.args in
    let more = c.loop-j-test.true in (
      omega arith,
      first.ensures.within,
      (λ st rep e d.
          let h : turn.j < length st.requests = omega (arith, more, d) in
          walk-next rep a.n turn.j turn.s first.result _ turn.apart e h (number_word a.t.now turn.j) first.ensures (turn.invariant.2 st rep e d)),
    )

pub returns : goal.returns
returns c =
    λ st rep e d.
    let last = c.loop-j in
    let m = c.args.m in
    let end : last.j ≡ m = omega (arith, last.invariant.0, c.loop-j-test.false) in
    walk_end rep m last.s last.apart d (subst (λ (k : ℕ). Walked rep k last.s last.apart) end (last.invariant.2 st rep e d))
