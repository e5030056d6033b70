-- `sessions::opening_line` meets its contract: the opening waits, or it is decided and answered.
use mathlib.Core.Path.{sym, ◌∙◌}
use lib.Seq.{length-take-le}
use Rattle.feed.proofs.Moves.{opening-waits, opening-decided}
use Rattle.feed.proofs.sessions.opening_line.Goals as goal

pub slice_bounds-undecided-end : goal.slice_bounds-undecided-end
slice_bounds-undecided-end c = sym (length-take-le _ c.args.kept.now c.requires.0)

pub returns-then-undecided : goal.returns-then-undecided
returns-then-undecided c =
    let waits = sym c.undecided.ensures ∙ c.if-undecided.true in
    rw c.line_start.ensures (opening-waits c.args.k c.args.kept.now c.args.tables.now c.args.processes.now c.args.out.now c.requires.0 waits)

pub slice_bounds-tablet_open-end : goal.slice_bounds-tablet_open-end
slice_bounds-tablet_open-end c = sym (length-take-le _ c.args.kept.now c.requires.0)

pub returns : goal.returns
returns c =
    let n = c.tablet_open-n in
    let decided = sym c.undecided.ensures ∙ c.if-undecided.false in
    let moved = opening-decided c.args.k c.args.kept.now c.args.tables.now c.args.processes.now c.args.out.now c.requires.0 _ _ _ n.result c.stage_after.result decided (n.ensures.answered c.requires.1) c.stage_after.ensures in
    rw c.line_start-2.ensures moved
