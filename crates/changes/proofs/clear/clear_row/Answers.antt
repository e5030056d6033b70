use Rattle.std.proofs.Common.{◌+◌, set, arith}
use Rattle.changes.proofs.ClearRows.{row-start, row-turn, row-end}
use Rattle.changes.proofs.clear.clear_row.Goals as goal

pub loop-k-init : goal.loop-k-init
loop-k-init c = let a = c.args in row-start a.size a.columns a.row a.part.now

pub loop-k-preserved : goal.loop-k-preserved
loop-k-preserved c =
    let l = c.loop-k in
    row-turn c.args.size c.args.columns c.args.row c.requires.1 c.args.part.now l.part c.requires.0 l.k l.invariant c.loop-k-test.true

pub returns : goal.returns
returns c =
    let l = c.loop-k in
    row-end c.args.size c.args.columns c.args.row c.requires.1 c.args.part.now l.part c.requires.0 l.k l.invariant c.loop-k-test.false

-- no further step fits
pub returns-2 : goal.returns-2
returns-2 c =
    let l = c.loop-k in
    let a = c.args in
    let next = row-turn a.size a.columns a.row c.requires.1 a.part.now l.part c.requires.0 l.k l.invariant c.loop-k-test.true in
    row-end a.size a.columns a.row c.requires.1 a.part.now (set l.part l.k 0) c.requires.0 (l.k + a.size) next (omega arith)
