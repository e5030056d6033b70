use native.Mathlib.Omega.{arith}
use Rattle.text.proofs.OpeningLaws.{line-some}
use Rattle.text.proofs.PassLaws.{passing-starts, passing-stops, passing-last, passing-goes-on, passing-ends}
use Rattle.text.proofs.opening_text.first_pass.Goals as goal

pub loop-at-init : goal.loop-at-init
loop-at-init c = (omega arith, omega arith, passing-starts _ _ c.none_given-g.ensures)

pub loop-at-smaller : goal.loop-at-smaller
loop-at-smaller c =
    let more = line-some c.args.text.now c.loop-at.at (omega arith) in
    omega arith

pub loop-at-preserved : goal.loop-at-preserved
loop-at-preserved c =
    let t = c.args.text.now in
    let k = c.loop-at.invariant.2 in
    let more = line-some t c.loop-at.at (omega arith) in
    let st = (rw c.in-Ok-Some.field-0-is at c.in-Ok-Some.ensures) k.read k.gives in
    let goes = passing-goes-on t c.loop-at.at c.loop-at.n c.loop-at.g k c.line_end-e.result (omega arith) c.line_end-e.ensures.ends c.in-Ok-Some.given st in
    (omega arith, omega arith, goes)

pub returns-in-Ok-None : goal.returns-in-Ok-None
returns-in-Ok-None c =
    let k = c.loop-at.invariant.2 in
    let st = (rw c.in-Ok-None.field-0-is at c.in-Ok-None.ensures) k.read k.gives in
    passing-last c.args.text.now c.loop-at.at c.loop-at.n c.loop-at.g k c.line_end-e.result (omega arith) c.line_end-e.ensures.ends st

pub returns-in-Err : goal.returns-in-Err
returns-in-Err c =
    let k = c.loop-at.invariant.2 in
    rw c.into.ensures (passing-stops c.args.text.now c.loop-at.at c.loop-at.n c.loop-at.g k c.line_end-e.result (omega arith) c.line_end-e.ensures.ends c.in-Err.refusal (c.in-Err.ensures k.read k.gives))

pub returns : goal.returns
returns c =
    rw c.into-2.ensures (passing-ends c.args.text.now c.loop-at.at c.loop-at.n c.loop-at.g c.loop-at.invariant.2 (omega arith))
