-- `call_line::gather` meets its contract: the groups read, then those left.
use mathlib.Core.Path.{◌≡◌}
use Rattle.text.specs.vocabulary.Groups.{groups_of}
use Rattle.text.proofs.GroupLaws.{Gathering}
use Rattle.text.proofs.call_line.gather.Given as goal

abbrev pub invariant-loop-n : goal.invariant-loop-n
invariant-loop-n l = (l.s.count ≡ l.n) × Gathering 64 l.line l.at (groups_of l.s l.firsts l.seconds)
