-- `opening_lines::entries_at` meets its contract: the entries read, then those left.
use mathlib.Core.Path.{◌≡◌}
use Rattle.text.proofs.OpeningLaws.{Entering}
use Rattle.text.proofs.opening_lines.entries_at.Given as goal

abbrev pub invariant-loop-n : goal.invariant-loop-n
invariant-loop-n l = (l.r.count ≡ l.n) × Entering 64 l.line l.at l.r
