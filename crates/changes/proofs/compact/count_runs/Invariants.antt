-- No word has more runs than bits.
use Rattle.std.proofs.Common.{◌*◌, ◌≤◌}
use Rattle.changes.specs.vocabulary.Bits.{BITS}
use Rattle.changes.proofs.compact.count_runs.Given as goal

abbrev pub invariant-loop-k : goal.invariant-loop-k
invariant-loop-k l = l.total ≤ l.k * BITS
