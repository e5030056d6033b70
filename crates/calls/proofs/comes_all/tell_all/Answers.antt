-- All rows are marked, and then each pair is told by its row's marks.
use Rattle.calls.proofs.comes_all.tell_all.Goals as goal

pub returns : goal.returns
returns c =
    let marked = c.mark_pairs in
    let requests = c.count_requests-m in
    let rows = c.count_rows-n in record { told = (λ st so rep. c.tell_each.ensures.told st so (rep, rows.ensures.counted st rep) (rep, requests.ensures.counted st rep) marked.ensures); long = c.tell_each.ensures.long }
