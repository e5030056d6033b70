-- `texts::join`: at first nothing is read.
use Rattle.joining.specs.Feeding.{begun}
use Rattle.joining.proofs.FedTexts.{begun-held}
use Rattle.join.proofs.texts.join.Goals as goal

pub loop-init : goal.loop-init
loop-init g c = (record { texts = begun; holds = begun-held _ _ _ _ c.begin-here.ensures; long = c.requires.bytes.0 }, c.requires.bytes.1)
