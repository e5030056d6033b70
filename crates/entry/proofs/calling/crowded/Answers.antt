-- `calling::crowded` meets its contract: 5 for a caller that is not listed, else 6.
use mathlib.Core.Path.{sym, refl, ◌∙◌}
use Rattle.calls.specs.Rules.{refused}
use Rattle.entry.proofs.Answered.{crowded-listed, crowded-unlisted}
use Rattle.entry.proofs.calling.crowded.Goals as goal

pub returns-then-listed : goal.returns-then-listed
unfolding refused
returns-then-listed c = λ st same.
    let e = sym c.listed.ensures ∙ c.if-listed.true in
    rw (crowded-listed st _ _ same e) (refl, c.into.ensures)

pub returns : goal.returns
unfolding refused
returns c = λ st same.
    let e = sym c.listed.ensures ∙ c.if-listed.false in
    rw (crowded-unlisted st _ _ same e) (refl, c.into-2.ensures)
