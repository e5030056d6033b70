-- `reading::store_entries` meets its contract: the entries stored so far, then those left.
use mathlib.Core.Path.{◌≡◌}
use lib.ListN.{length}
use Rattle.joining.proofs.StoredEntries.{Storing}
use Rattle.joining.proofs.reading.store_entries.Given as goal

abbrev pub invariant-loop-n : goal.invariant-loop-n
invariant-loop-n l = (length l.words ≡ length l.initial.words) × Storing l.initial.words l.at l.line l.from l.i l.n l.words
