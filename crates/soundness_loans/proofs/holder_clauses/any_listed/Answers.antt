use Rattle.std.proofs.Common.{◌<◌, length, refl, ap, ◌∙◌, add-one, arith, take_all}
use Rattle.rows.specs.Lists.{any, some}
use Rattle.soundness_loans.specs.vocabulary.Clauses.{code_at, any_listed}
use Rattle.soundness_loans.proofs.HolderClauses.{any-more}
use Rattle.soundness_loans.proofs.holder_clauses.any_listed.Goals as goal

pub loop-s-init : goal.loop-s-init
unfolding any
loop-s-init c = refl

pub is_listed-listed-requires : goal.is_listed-listed-requires
is_listed-listed-requires c = c.requires c.loop-s.s-index

pub loop-s-preserved : goal.loop-s-preserved
loop-s-preserved c =
    let lt : c.loop-s.s-index < length c.args.slots = omega arith in
    rw (add-one, any-more (λ s. some (code_at c.args.listing.now s)) c.loop-s.s-index c.args.slots lt, c.is_listed-listed.ensures, c.loop-s.invariant) refl

pub returns : goal.returns
returns c = c.loop-s.invariant ∙ ap (any_listed c.args.listing.now) (take_all c.loop-s.s-index c.args.slots (omega arith))
