-- `sessions::call_line` meets its contract: the line begun is answered as a call.
use Rattle.feed.proofs.Moves.{call-answered}
use Rattle.feed.proofs.sessions.call_line.Goals as goal

pub returns : goal.returns
returns c =
    let n = c.tablet_call-n in
    let moved = call-answered c.args.k c.args.kept.now c.args.tables.now c.args.processes.now c.args.out.now c.requires.0 _ _ _ n.result (n.ensures.answered c.requires.1) in
    rw c.line_start.ensures moved
