-- `holder_clauses::code_of` meets its contract.
use mathlib.Core.Path.{ap, sym}
use Rattle.soundness_loans.specs.vocabulary.Clauses.{listing_code}
use Rattle.soundness_loans.proofs.holder_clauses.code_of.Goals as goal

pub returns-then-fetched : goal.returns-then-fetched
unfolding listing_code
returns-then-fetched c = sym (ap listing_code c.if-fetched.true)

pub returns : goal.returns
unfolding listing_code
returns c = sym (ap listing_code c.if-fetched.false)
