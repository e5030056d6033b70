-- `sessions::finish` meets its contract: by the stage.
use native.Mathlib.Omega.{arith}
use mathlib.Core.Path.{sym}
use lib.Seq.{length-take-le}
use Rattle.feed.specs.Feeding.{finished}
use Rattle.feed.specs.vocabulary.Buffers.{session_in}
use Rattle.feed.proofs.Moves.{given-writes, finish-opening, finish-none, finish-call, finish-over}
use Rattle.feed.proofs.Parts.{writes-within}
use Rattle.feed.proofs.sessions.finish.Goals as goal

pub slice_bounds-tablet_open-end : goal.slice_bounds-tablet_open-end
slice_bounds-tablet_open-end c =
    sym (length-take-le _ c.args.kept.now c.requires.0)

pub returns-then-at-end : goal.returns-then-at-end
returns-then-at-end c =
    record { within = omega arith; given = finish-none c.args.k c.args.kept.now c.args.tables.now c.args.processes.now c.args.out.now c.requires.0 c.in-Calls.is c.if-at-end.true }

pub returns-in-Opening : goal.returns-in-Opening
returns-in-Opening c =
    let n = c.tablet_open in
    let w = finish-opening c.args.k c.args.kept.now c.args.tables.now c.args.processes.now c.args.out.now c.requires.0 c.in-Opening.is _ _ _ n.result (n.ensures.answered c.requires.1) in
    let o = finished c.args.k.stage (session_in c.args.k c.args.kept.now c.args.tables.now c.args.processes.now) in
    record { within = writes-within o.reply c.args.out.now _ n.result (given-writes o _ _ _ _ _ w) c.out-1.given; given = w }

pub returns-else-at-end : goal.returns-else-at-end
returns-else-at-end c =
    let n = c.tablet_call in
    let w = finish-call c.args.k c.args.kept.now c.args.tables.now c.args.processes.now c.args.out.now c.requires.0 c.in-Calls.is c.if-at-end.false _ _ _ n.result (n.ensures.answered c.requires.1) in
    let o = finished c.args.k.stage (session_in c.args.k c.args.kept.now c.args.tables.now c.args.processes.now) in
    record { within = writes-within o.reply c.args.out.now _ n.result (given-writes o _ _ _ _ _ w) c.out-in-Calls-1.given; given = w }

pub returns-in-Over : goal.returns-in-Over
returns-in-Over c =
    record { within = omega arith; given = finish-over c.args.k c.args.kept.now c.args.tables.now c.args.processes.now c.args.out.now c.requires.0 c.in-Over.is }
