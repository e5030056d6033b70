use borrow.Author.Rules.{rules}
use native.Mathlib.Omega.{arith}
use Rattle.text.proofs.OpeningLaws.{line-some}
use Rattle.feed.proofs.Buffers.{counting-starts, counting-goes-on, counting-ends}
use Rattle.feed.proofs.keeping.count_lines.Goals as goal

pub loop-at-init : goal.loop-at-init
loop-at-init c = (omega arith, counting-starts _)

pub loop-at-smaller : goal.loop-at-smaller
loop-at-smaller c =
    let some = line-some c.args.text.now c.loop-at.at (omega arith) in
    omega arith

pub loop-at-preserved : goal.loop-at-preserved
loop-at-preserved c =
    (search rules, counting-goes-on c.args.text.now c.loop-at.at c.loop-at.n c.loop-at.invariant.1 (search rules) c.line_end-at.result c.line_end-at.ensures.ends)

pub returns : goal.returns
returns c = counting-ends c.args.text.now c.loop-at.at c.loop-at.n c.loop-at.invariant.1 (search rules)
