-- The test of the bits is the definition's. Assumes nothing.
use Rattle.rows.proofs.RightsWithin.{within-bits}
use Rattle.rows.proofs.Rights.within.Goals as goal

pub returns : goal.returns
returns c = within-bits c.args.self.0 c.args.other.0
