-- `record_clauses::record_in_range` meets its contract.
use mathlib.Core.Path.{refl}
use Rattle.rows.specs.Codes.{is_node}
use Rattle.rows.specs.Sound.{record_unused, record_in_range}
use Rattle.soundness.proofs.record_clauses.record_in_range.Goals as goal

pub returns : goal.returns
unfolding record_in_range record_unused is_node
returns c = rw (c.is_node-prime.ensures, c.is_node-active.ensures) refl
