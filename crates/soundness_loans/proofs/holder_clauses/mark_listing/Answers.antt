use Rattle.std.proofs.Common.{ℕ, List, ◌<◌, length, refl, ap, ◌∙◌, add-one, arith, take_all}
use Rattle.soundness_loans.specs.vocabulary.Clauses.{list_all}
use Rattle.soundness_loans.proofs.HolderClauses.{list-more}
use Rattle.soundness_loans.proofs.holder_clauses.mark_listing.Goals as goal

pub loop-s-init : goal.loop-s-init
unfolding list_all
loop-s-init c = refl

pub list_at-requires : goal.list_at-requires
list_at-requires c = c.requires c.loop-s.s-index

pub loop-s-preserved : goal.loop-s-preserved
loop-s-preserved c =
    let lt : c.loop-s.s-index < length c.args.slots = omega arith in
    rw (add-one, list-more c.args.code c.loop-s.s-index c.args.slots c.args.listing.now lt, c.list_at.ensures, c.loop-s.invariant) refl

pub returns : goal.returns
returns c = c.loop-s.invariant ∙ ap (λ (ss : List ℕ). list_all c.args.code ss c.args.listing.now) (take_all c.loop-s.s-index c.args.slots (omega arith))
