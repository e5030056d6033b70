use borrow.Author.Rules.{rules}
use Prim.Native.Nat.{ℕ}
use native.Mathlib.Omega.{arith}
use mathlib.Core.Bool.{Bool, not}
use mathlib.Core.Path.{◌≡◌, ap, sym, subst, ◌∙◌}
use borrow.Author.Count.{below_more}
use borrow.Author.Tests.{eqb-true}
use lib.Dec.{eqb}
use lib.ListN.{get_or}
use native.Mathlib.Nat.{not-suc-le-zero}
use Rattle.rows.specs.declared.Process.{Process}
use Rattle.rows.specs.Tables.{no_process}
use Rattle.rows.specs.Layout.{records_in}
use Rattle.rows.proofs.Bools.{or-fl, or-fr, not_f}
use Rattle.closing.specs.vocabulary.Takes.{HomeTo}
use Rattle.closing.proofs.homes.any_away.Goals as goal

pub loop-k-init : goal.loop-k-init
loop-k-init c = (search rules, (λ e k h. absurd (not-suc-le-zero h)))

pub loop-k-preserved : goal.loop-k-preserved
loop-k-preserved c =
    let x = c.record_at-x in
    let l = c.loop-k in
    let ps = c.args.ps.now in
    let away : Bool = not (eqb x.result.through 0) in (
      search rules,
      (λ e.
          below_more (λ k. (get_or (records_in ps) k no_process).through ≡ 0) l.k (l.invariant.1 (or-fr away l.away e))
          (ap (λ (y : Process). y.through) (sym x.ensures) ∙ eqb-true x.result.through 0 (not_f (eqb x.result.through 0) (or-fl away l.away e)))),
    )

pub returns : goal.returns
returns c =
    let l = c.loop-k in
    let ps = c.args.ps.now in
    let end : l.k ≡ 64 = omega (arith, l.invariant.0, c.loop-k-test.false) in
    λ e. subst (λ (n : ℕ). HomeTo ps n) end (l.invariant.1 e)
