-- `request_clauses::via_number` meets its contract: the second source of a row in use is a slot.
use native.Mathlib.Omega.{arith}
use mathlib.Core.Path.{ap, ◌∙◌}
use Rattle.soundness_loans.specs.vocabulary.Clauses.{word_at}
use Rattle.soundness_loans.proofs.RequestClauses.{via-small}
use Rattle.soundness_loans.proofs.request_clauses.via_number.Goals as goal

pub word_at-requires : goal.word_at-requires
word_at-requires c =
    (c.requires.sizes.0, omega arith, omega (arith, c.word_at-via.ensures, via-small c.args.t.now c.args.n c.args.s c.requires.vias c.requires.sizes.1 c.requires.sizes.2))

pub returns : goal.returns
returns c = c.word_at.ensures ∙ ap (word_at c.args.t.now 0) c.word_at-via.ensures
