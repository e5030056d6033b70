-- The last number up to n is at the position, or after it and within the width.
use Rattle.std.proofs.Common.{◌+◌, ◌<◌, ◌≤◌, length}
use Rattle.rows.specs.vocabulary.Searches.{UpToInFront}
use Rattle.rows.proofs.Searches.{Stepped}
use Rattle.rows.proofs.find.last_up_to.Given as goal

abbrev pub invariant-loop-width : goal.invariant-loop-width
invariant-loop-width l = (0 < l.width) × (l.at + l.width ≤ length l.column) × (UpToInFront l.column l.n → Stepped l.column l.n l.at l.width)

abbrev pub decreases-loop-width : goal.decreases-loop-width
decreases-loop-width l = l.width
