-- `lookups::request_among`: a search by halves of the numbers.
use Rattle.rows.proofs.Lookups.{request-search}
use Rattle.calls.proofs.lookups.request_among.Goals as goal

pub returns : goal.returns
returns c =
    record { within = c.search.ensures.within; found = (λ st h. request-search h.0 c.args.m c.args.q c.search.result h.1 c.search.ensures.found) }
