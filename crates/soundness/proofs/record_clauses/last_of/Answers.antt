-- `record_clauses::last_of` meets its contract.
use mathlib.Core.Path.{refl}
use Rattle.soundness.specs.vocabulary.Laid.{before}
use Rattle.soundness.proofs.RecordClauses.{before_last}
use Rattle.soundness.proofs.record_clauses.last_of.Goals as goal

pub returns-then-k-eq0 : goal.returns-then-k-eq0
unfolding before
returns-then-k-eq0 c = rw c.if-k-eq0.true refl

pub returns : goal.returns
returns c = before_last c.args.column.now c.args.k c.if-k-eq0.false
