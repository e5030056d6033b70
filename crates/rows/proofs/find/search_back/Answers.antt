use Rattle.std.proofs.Common.{arith}
use Rattle.rows.specs.vocabulary.Slots.{Within}
use Rattle.rows.proofs.Searches.{back_more, back-hit, back_none}
use Rattle.rows.proofs.find.search_back.Goals as goal

pub loop-i-preserved : goal.loop-i-preserved
loop-i-preserved c = back_more c.args.column.now c.args.count c.args.n c.loop-i.i c.loop-i-test.true c.loop-i.invariant c.if-column-i.false

pub returns-then-column-i : goal.returns-then-column-i
unfolding Within
returns-then-column-i c =
    record { within = omega arith; found = back-hit _ _ _ c.loop-i.i c.loop-i-test.true c.loop-i.auto.i c.loop-i.invariant c.if-column-i.true }

pub returns : goal.returns
unfolding Within
returns c = record { within = tt; found = back_none _ _ _ c.loop-i.i (omega arith) c.loop-i.invariant }
