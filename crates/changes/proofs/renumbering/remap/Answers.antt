use borrow.Author.Rules.{rules}
use Prim.Native.Nat.{ℕ, ◌<◌, ◌+◌}
use native.Mathlib.Omega.{arith}
use mathlib.Core.Path.{◌≡◌, sym, subst}
use lib.ListN.{length, set}
use Rattle.changes.specs.vocabulary.Marks.{Remapped}
use Rattle.changes.proofs.Renumber.{remap-start, remap-turn}
use Rattle.changes.proofs.renumbering.remap.Goals as goal

pub loop-i-init : goal.loop-i-init
loop-i-init c =
    (search rules, search rules, remap-start c.args.to.now c.args.from c.args.column.now)

pub loop-i-preserved : goal.loop-i-preserved
loop-i-preserved c =
    let l = c.loop-i in
    let to = c.args.to.now in
    let column = c.args.column.now in
    let room : l.i < length column = omega (arith, c.loop-i-test.true, c.requires.1) in (
      search rules,
      search rules,
      subst (λ (v : ℕ). Remapped to c.args.from (l.i + 1) column (set l.column l.i v)) (sym c.rank_at.ensures)
          (remap-turn to c.args.from column l.column l.i l.invariant.0 room l.invariant.2),
    )

pub returns : goal.returns
returns c =
    let e : c.loop-i.i ≡ c.args.count = omega (arith, c.loop-i.invariant.1, c.loop-i-test.false) in
    subst (λ (n : ℕ). Remapped c.args.to.now c.args.from n c.args.column.now c.loop-i.column) e c.loop-i.invariant.2
