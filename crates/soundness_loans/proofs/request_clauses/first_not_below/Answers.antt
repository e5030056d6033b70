use native.Mathlib.Omega.{arith}
use Rattle.soundness_loans.proofs.NumbersApart.{below_none, below_more}
use Rattle.soundness_loans.proofs.request_clauses.first_not_below.Goals as goal

pub loop-s-init : goal.loop-s-init
loop-s-init c = below_none c.args.t.now c.args.q c.args.from

pub returns-then-q-t : goal.returns-then-q-t
returns-then-q-t c =
    let turn = c.loop-s in
    record { past = turn.auto.s; within = omega arith; below = turn.invariant; reached = λ h. c.if-q-t.true }

pub loop-s-preserved : goal.loop-s-preserved
loop-s-preserved c =
    let turn = c.loop-s in
    below_more c.args.t.now c.args.q c.args.from turn.s turn.invariant c.if-q-t.false

pub returns : goal.returns
returns c =
    let last = c.loop-s in
    record { past = omega arith; within = omega arith; below = λ i lo hi. last.invariant i lo (omega (arith, c.loop-s-test.false)); reached = λ h. absurd (omega arith) }
