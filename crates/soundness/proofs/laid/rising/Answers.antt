use Rattle.std.proofs.Common.{◌≡◌, ℕ, ◌+◌, ◌<◌, get_or, refl, arith, List}
use Rattle.std.proofs.lemmas.List.{get_or-take}
use native.Mathlib.Numerals.{add-one}
use Rattle.std.proofs.Common.{length-take}
use Rattle.soundness.specs.vocabulary.Laid.{before, Rising}
use Rattle.soundness.proofs.Decides.{decides-none, decides-more, decides_ltb, decides_below}
use Rattle.soundness.proofs.laid.rising.Goals as goal

before-next : (l : List ℕ) (i : ℕ) → get_or l i 0 ≡ before l (i + 1)
unfolding before
before-next l i = rw add-one refl

pub loop-n-init : goal.loop-n-init
unfolding before
loop-n-init c = (refl, decides-none (λ j. before c.args.column.now j < get_or c.args.column.now j 0) 0)

pub loop-n-preserved : goal.loop-n-preserved
loop-n-preserved c =
    let l = c.args.column.now in
    let i : ℕ = c.loop-n.n-index in
    let lt : i < c.args.k = omega (arith, length-take {A = ℕ}) in
    rw (get_or-take c.args.k l i 0 lt) (
      before-next l i,
      decides-more (λ j. before l j < get_or l j 0) 0 i c.loop-n.rise _ (omega arith) c.loop-n.invariant.1
          (rw c.loop-n.invariant.0 (decides_ltb (before l i) (get_or l i 0))),
    )

pub returns : goal.returns
unfolding Rising
returns c =
    let l = c.args.column.now in
    decides_below (λ j. before l j < get_or l j 0) _ c.loop-n.n-index _ (omega (arith, length-take {A = ℕ})) (omega (arith, length-take {A = ℕ})) c.loop-n.invariant.1
