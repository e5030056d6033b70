use Rattle.std.proofs.Common.{◌≡◌, ◌+◌, get_or, sym, subst, arith, Bool}
use lib.Dec.{eqb}
use Rattle.soundness.specs.vocabulary.Laid.{Decides}
use Rattle.soundness.proofs.Decides.{Between, decides-more, decides_eqb, decides-zero, or-zero}
use Rattle.soundness.proofs.laid.zero_from.Goals as goal

pub loop-i-preserved : goal.loop-i-preserved
loop-i-preserved c =
    let l = c.args.column.now in
    let x = get_or l c.loop-i.i 0 in
    subst (λ (a : Bool). Decides a (Between c.args.k (c.loop-i.i + 1) (λ j. get_or l j 0 ≡ 0))) (sym (or-zero c.loop-i.bits x))
    (decides-more (λ j. get_or l j 0 ≡ 0) _ c.loop-i.i (eqb c.loop-i.bits 0) (eqb x 0) (omega arith) c.loop-i.invariant (decides_eqb x 0))

pub returns : goal.returns
returns c = decides-zero _ _ c.loop-i.i _ c.loop-i-test.false c.loop-i.invariant
