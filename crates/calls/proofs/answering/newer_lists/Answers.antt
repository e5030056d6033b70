-- `answering::newer_lists`: the items of the request in its slot.
use Rattle.calls.proofs.LentEnds.{newer-read}
use Rattle.calls.proofs.answering.newer_lists.Goals as goal

pub returns : goal.returns
returns c =
    let a = c.args in
    let read = c.request_at-w in
    newer-read a.t.now a.k a.q a.e read.result read.ensures c.contains.result c.contains.ensures.value
