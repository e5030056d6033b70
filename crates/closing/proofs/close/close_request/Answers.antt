-- `close::close_request`: its seeds are those of `close_request`.
use Rattle.closing.specs.Closing.{close_request}
use Rattle.closing.specs.vocabulary.Seeds.{seed_of, closes_of, closing_from}
use Rattle.closing.proofs.close.close_request.Goals as goal

pub returns : goal.returns
unfolding closing_from seed_of closes_of close_request
returns c = record { closed = c.close.ensures.closed; long = c.close.ensures.long }
