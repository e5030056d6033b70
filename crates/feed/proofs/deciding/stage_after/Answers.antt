-- `deciding::stage_after` meets its contract: the reply's second byte tells.
use Rattle.feed.proofs.Buffers.{told_by, told-opening}
use Rattle.feed.proofs.deciding.stage_after.Goals as goal

pub returns-then-out-eq111 : goal.returns-then-out-eq111
unfolding told_by
returns-then-out-eq111 c = λ t p text rest e. (told-opening t p text rest).0 (rw (← e) c.if-out-eq111.true)

pub returns : goal.returns
unfolding told_by
returns c = λ t p text rest e. (told-opening t p text rest).1 (rw (← e) c.if-out-eq111.false)
