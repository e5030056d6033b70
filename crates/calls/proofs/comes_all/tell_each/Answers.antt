use borrow.Author.Rules.{rules}
use Prim.Native.Nat.{◌<◌}
use mathlib.Core.Path.{◌≡◌, refl}
use native.Mathlib.Omega.{arith}
use Rattle.calls.proofs.PairsTold.{told-turn, told-list}
use Rattle.calls.proofs.comes_all.tell_each.Goals as goal

pub loop-k-init : goal.loop-k-init
loop-k-init c = (search rules, search rules, λ j h. absurd (omega arith))

pub loop-k-preserved : goal.loop-k-preserved
loop-k-preserved c =
    let l = c.loop-k in
    let a = c.args in
    let room : l.k < 16 = c.loop-k-test.true in (
      search rules,
      search rules,
      told-turn a.t.now a.n a.m a.marks.now a.es.now a.qs.now l.k l.told c.tell.result (omega (arith, room, l.invariant.1)) l.invariant.2 c.tell.ensures,
    )

pub returns : goal.returns
returns c =
    let l = c.loop-k in
    let a = c.args in
    let all : l.k ≡ 16 = omega (arith, l.invariant.0, c.loop-k-test.false) in record {
      told = (λ st so rows requests right.
          told-list st a.es.now a.qs.now l.told (omega (arith, c.requires.pairs)) (omega (arith, c.requires.pairs, l.invariant.1))
          (λ k few. l.invariant.2 k (omega (arith, few, all, c.requires.pairs)) st a.qs.now so rows requests right refl));
      long = l.invariant.1;
    }
