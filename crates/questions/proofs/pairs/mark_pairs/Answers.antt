use borrow.Author.Rules.{rules}
use Prim.Native.Nat.{◌<◌}
use native.Mathlib.Omega.{arith}
use Rattle.questions.proofs.PairMarks.{pairs_start, pairs-turn}
use Rattle.questions.proofs.pairs.mark_pairs.Goals as goal

pub loop-i-init : goal.loop-i-init
loop-i-init c =
    (search rules, c.requires.2.0, pairs_start c.args.t.now c.args.requests.now c.args.marks.now c.requires.2.1)

pub loop-i-preserved : goal.loop-i-preserved
loop-i-preserved c =
    let l = c.loop-i in
    let room : l.i < c.args.n = c.loop-i-test.true in (
      search rules,
      search rules,
      pairs-turn c.args.t.now l.i c.args.requests.now l.marks c.marks_of.result (omega (arith, room, c.requires.1, l.invariant.1)) l.invariant.2 c.marks_of.ensures,
    )

pub returns : goal.returns
returns c =
    let l = c.loop-i in
    λ st n so rep low. l.invariant.2 st n so rep (omega (arith, l.invariant.0, c.loop-i-test.false, low))
