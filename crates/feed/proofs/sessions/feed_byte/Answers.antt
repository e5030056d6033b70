-- `sessions::feed_byte` meets its contract: the byte is kept, and a line feed ends the line.
use borrow.Author.Rules.{rules}
use Rattle.feed.proofs.Moves.{byte-silent, byte-ends}
use Rattle.feed.proofs.sessions.feed_byte.Goals as goal

pub line_ended-requires : goal.line_ended-requires
line_ended-requires c = (c.keep_byte-after.ensures.stands, search rules)

pub returns-then-b-eq10 : goal.returns-then-b-eq10
returns-then-b-eq10 c =
    let e = c.keep_byte-after in
    let m = c.line_ended in
    byte-ends c.args.b c.args.k c.args.kept.now c.args.tables.now c.args.processes.now c.args.out.now e.result _ e.ensures c.if-b-eq10.true m.result _ _ _ m.ensures

pub returns : goal.returns
returns c =
    let e = c.keep_byte-after in
    byte-silent c.args.b c.args.k c.args.kept.now c.args.tables.now c.args.processes.now c.args.out.now e.result _ e.ensures c.if-b-eq10.false
