use borrow.Author.Rules.{rules}
use Prim.Native.Nat.{◌<◌}
use native.Mathlib.Omega.{arith}
use mathlib.Core.Path.{◌≡◌, refl, ◌∙◌}
use Rattle.changes.proofs.ClearRows.{rows_start, rows-turn}
use Rattle.changes.proofs.clear.clear_rows.Goals as goal

pub loop-i-init : goal.loop-i-init
loop-i-init c =
    let a = c.args in
    (search rules, search rules, refl, rows_start a.size a.columns a.from a.part.now c.requires.0 (omega (arith, c.requires)))

pub loop-i-preserved : goal.loop-i-preserved
loop-i-preserved c =
    let called = c.clear_row in
    let l = c.loop-i in
    let a = c.args in
    let below : l.i < a.size = omega (arith, c.loop-i-test.true, c.requires.2) in (
      search rules,
      search rules,
      called.auto.part ∙ l.invariant.2,
      rows-turn a.size a.columns a.from a.part.now c.requires.0 l.i l.invariant.0 below l.part called.new.part l.invariant.3 called.ensures,
    )

pub returns : goal.returns
returns c =
    let e : c.loop-i.i ≡ c.args.to = omega (arith, c.loop-i.invariant.1, c.loop-i-test.false) in
    rw e at c.loop-i.invariant.3
