-- `close::drop_row`: its seeds are those of `drop_row`.
use Rattle.closing.specs.Closing.{drop_row}
use Rattle.closing.specs.vocabulary.Seeds.{seed_of, closes_of, closing_from}
use Rattle.closing.proofs.close.drop_row.Goals as goal

pub returns : goal.returns
unfolding closing_from seed_of closes_of drop_row
returns c = record { dropped = c.close.ensures.closed; long = c.close.ensures.long }
