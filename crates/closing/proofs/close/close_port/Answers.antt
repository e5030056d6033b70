-- `close::close_port`: its seeds are those of `close_port`.
use Rattle.closing.specs.Closing.{close_port}
use Rattle.closing.specs.vocabulary.Seeds.{seed_of, closes_of, closing_from}
use Rattle.closing.proofs.close.close_port.Goals as goal

pub returns : goal.returns
unfolding closing_from seed_of closes_of close_port
returns c = record { closed = c.close.ensures.closed; long = c.close.ensures.long }
