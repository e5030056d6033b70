use borrow.Author.Rules.{rules}
use Prim.Native.Nat.{ℕ, ◌-◌, ◌+◌}
use mathlib.Core.Path.{◌≡◌, refl, subst, ◌∙◌}
use native.Mathlib.Omega.{arith}
use lib.ListN.{length-set}
use Rattle.changes.specs.vocabulary.Marks.{RanksRun}
use Rattle.changes.proofs.Renumber.{run-start, run-turn}
use Rattle.changes.proofs.renumbering.ranks_run.Goals as goal

pub loop-i-init : goal.loop-i-init
loop-i-init c = (search rules, search rules, refl, run-start c.args.from c.args.start c.args.to.now)

pub loop-i-preserved : goal.loop-i-preserved
loop-i-preserved c =
    let l = c.loop-i in (
      search rules,
      search rules,
      length-set l.to (l.i + 1) (c.args.start + (l.i - c.args.from)) ∙ l.invariant.2,
      run-turn c.args.from l.i c.args.start c.args.to.now l.to l.invariant.0 (omega (arith, l.invariant.2, c.loop-i-test.true, c.requires.3)) l.invariant.3,
    )

pub returns : goal.returns
returns c =
    let l = c.loop-i in
    let e : l.i ≡ c.args.end = omega (arith, l.invariant.1, c.loop-i-test.false) in
    subst (λ (i : ℕ). RanksRun c.args.from i c.args.start c.args.to.now l.to) e l.invariant.3
