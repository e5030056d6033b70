-- `sessions::line_ended` meets its contract: by the stage.
use Rattle.feed.proofs.Moves.{ended-opening, ended-calls, ended-over}
use Rattle.feed.proofs.sessions.line_ended.Goals as goal

pub returns-in-Opening : goal.returns-in-Opening
returns-in-Opening c =
    let m = c.opening_line in
    ended-opening c.args.k c.args.kept.now c.args.tables.now c.args.processes.now c.args.out.now c.requires.0 c.in-Opening.is m.result _ _ _ m.ensures

pub returns-in-Calls : goal.returns-in-Calls
returns-in-Calls c =
    let m = c.call_line in
    ended-calls c.args.k c.args.kept.now c.args.tables.now c.args.processes.now c.args.out.now c.requires.0 c.in-Calls.is m.result _ _ _ m.ensures

pub returns-in-Over : goal.returns-in-Over
returns-in-Over c =
    rw c.line_start.ensures (ended-over c.args.k c.args.kept.now c.args.tables.now c.args.processes.now c.args.out.now c.requires.0 c.in-Over.is)
