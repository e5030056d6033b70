use borrow.Author.Rules.{rules}
use native.Mathlib.Omega.{arith}
use Rattle.questions.proofs.PairMarks.{asked-none, asked-turn}
use Rattle.questions.proofs.pairs.asking.Goals as goal

pub loop-k-init : goal.loop-k-init
loop-k-init c = (search rules, asked-none _ _)

pub loop-k-preserved : goal.loop-k-preserved
loop-k-preserved c =
    let a = c.args in
    (search rules, rw c.from.ensures (asked-turn a.requests.now a.q c.loop-k.k c.loop-k.bits (omega arith) c.loop-k.invariant.1))

pub returns : goal.returns
returns c =
    let l = c.loop-k in
    λ k few. l.invariant.1.asked k (omega (arith, l.invariant.0, c.loop-k-test.false, few))
