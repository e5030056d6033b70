-- `lookups::open_among`: a search back from the newest request.
use Rattle.rows.proofs.Lookups.{open-search}
use Rattle.calls.proofs.lookups.open_among.Goals as goal

pub returns : goal.returns
returns c =
    record { within = c.search_back.ensures.within; found = (λ st h. open-search h.0 c.args.m c.args.c c.search_back.result h.1 c.search_back.ensures.found) }
