-- `feeding::begin` meets its contract: both directories hold nothing.
use mathlib.Core.Path.{refl}
use Rattle.joining.specs.vocabulary.Reading.{Holds}
use Rattle.joining.proofs.StoredForms.{cleared-held}
use Rattle.joining.proofs.feeding.begin.Goals as goal

pub returns : goal.returns
unfolding Holds
returns c =
    (refl, refl, c.none_given.ensures, cleared-held c.args.first.now c.clear.new.run c.requires.0 c.clear.ensures, cleared-held c.args.second.now c.clear-2.new.run c.requires.1 c.clear-2.ensures)
