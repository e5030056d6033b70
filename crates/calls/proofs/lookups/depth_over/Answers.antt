-- `lookups::depth_over`: the deeper of two rows, which are no deeper than a row may be.
use native.Mathlib.Omega.{arith}
use Rattle.rows.specs.Tables.{depth_over}
use Rattle.calls.proofs.lookups.depth_over.Goals as goal

pub returns : goal.returns
unfolding depth_over
returns c = λ st a b rep p q f g. omega (arith, c.depth_at.ensures st a rep p, c.depth_at-2.ensures st b rep q, c.max-deeper.ensures, c.min.ensures)
