use borrow.Author.Rules.{rules}
use native.Mathlib.Numerals.{add-one}
use native.Mathlib.Omega.{arith}
use mathlib.Core.Bool.{◌&&◌}
use mathlib.Core.Path.{◌≡◌, refl, ap, ◌∙◌}
use Rattle.soundness_loans.specs.vocabulary.Clauses.{held_to}
use Rattle.soundness_loans.proofs.holder_clauses.rows_held.Goals as goal

pub loop-i-init : goal.loop-i-init
unfolding held_to
loop-i-init c = (search rules, refl)

pub loop-i-preserved : goal.loop-i-preserved
unfolding held_to
loop-i-preserved c =
    (search rules, rw (add-one c.loop-i.i) (λ k. (c.system_holds-held.ensures k && c.copy_listed-listed.ensures k) && c.loop-i.invariant.1 k))

pub returns : goal.returns
returns c = let end : c.loop-i.i ≡ c.args.n = omega (arith, c.loop-i.invariant.0, c.loop-i-test.false) in
    c.loop-i.invariant.1 ∙ ap (held_to c.args.t.now c.args.listing.now) end
