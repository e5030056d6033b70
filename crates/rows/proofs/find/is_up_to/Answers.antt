-- The difference wraps to the greatest word where x is 0.
use Rattle.std.proofs.Common.{arith}
use Rattle.rows.proofs.Searches.{wraps-up-to}
use Rattle.rows.proofs.find.is_up_to.Goals as goal

pub returns : goal.returns
returns c = wraps-up-to c.args.x c.args.n _ c.ranges.n.fits (omega arith) (omega (arith, c.ranges.x.fits))
