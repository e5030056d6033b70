-- `opening_words::write_entries` meets its contract: the entries written, then those left.
use Prim.Native.Nat.{◌≤◌, ◌-◌}
use Rattle.rows.specs.vocabulary.Sizes.{IsTables}
use Rattle.text.proofs.WrittenLaws.{Writing}
use Rattle.text.proofs.opening_words.write_entries.Given as goal

abbrev pub invariant-loop-k : goal.invariant-loop-k
invariant-loop-k l = (l.k ≤ 64) × IsTables l.t × Writing l.g l.initial.t l.t l.line l.at l.node l.rows l.i l.n l.k

abbrev pub decreases-loop-k : goal.decreases-loop-k
decreases-loop-k l = 64 - l.k
