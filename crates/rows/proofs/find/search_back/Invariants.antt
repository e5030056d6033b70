-- `find::search_back` meets its contract: from the loop's position on the number does not stand.
use Rattle.rows.proofs.Searches.{FreeFrom}
use Rattle.rows.proofs.find.search_back.Given as goal

abbrev pub invariant-loop-i : goal.invariant-loop-i
invariant-loop-i l = FreeFrom l.column l.count l.n l.i
