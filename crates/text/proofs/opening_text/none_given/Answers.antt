-- `opening_text::none_given` meets its contract.
use Rattle.text.proofs.OpeningLaws.{gives_none}
use Rattle.text.proofs.opening_text.none_given.Goals as goal

pub returns : goal.returns
returns c = gives_none
