-- `read::request_at` meets its contract: each column's word at the slot.
use Rattle.rows.proofs.RequestSlots.{request-read}
use Rattle.rows.proofs.read.request_at.Goals as goal

pub returns : goal.returns
returns c =
    request-read c.args.t.now c.args.j
