-- `find::search` meets its contract: the loop keeps a bracket about the number, which halves.
use Rattle.std.proofs.Common.{◌-◌, ◌≤◌}
use Rattle.rows.specs.vocabulary.Searches.{Ascending}
use Rattle.rows.proofs.Searches.{Bracket}
use Rattle.rows.proofs.find.search.Given as goal

abbrev pub invariant-loop-lo : goal.invariant-loop-lo
invariant-loop-lo l = (l.hi ≤ l.count) × (Ascending l.count l.column → Bracket l.column l.count l.n l.lo l.hi)

abbrev pub decreases-loop-lo : goal.decreases-loop-lo
decreases-loop-lo l = l.hi - l.lo
