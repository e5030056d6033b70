use Rattle.std.proofs.Common.{◌≡◌, ℕ, ◌+◌, ◌-◌, ◌*◌, ◌≤◌, length, refl, ◌∙◌, arith}
use borrow.Rule.Slice.PartMut.{same_len_mid}
use Rattle.changes.specs.vocabulary.Marks.{on_parts}
use Rattle.changes.proofs.Parts.{part_end, changed-start, changed-turn, changed-long, parts-longer}
use Rattle.changes.proofs.on_each.on_each.Goals as goal

pub loop-k-init : goal.loop-k-init
unfolding on_parts
loop-k-init g c = (refl, omega arith, changed-start (g.C.OnColumn.does c.args.c.now) c.args.size c.args.part.now)

pub loop-k-preserved : goal.loop-k-preserved
loop-k-preserved g c =
    let l = c.loop-k in
    let k : ℕ = c.args.size in
    let a : ℕ = l.k * k in
    let w : (a + k) - a ≡ k = omega arith in
    let f = g.C.OnColumn.does c.args.c.now in
    let l₀ = c.args.part.now in
    let ends : a + k ≤ length l₀ = omega (arith, part_end k l.k c.args.columns c.loop-k-test.true, c.requires.sizes) in
    let inv = l.invariant in
    let lent = changed-long f k l₀ l.part l.k ends inv.1 inv.2 in
    let ys = c.on.new.column in
    let y = rw w at c.on.ensures in (
      same_len_mid a ((a + k) - a) l.part ys c.on.auto.column ∙ inv.0,
      parts-longer f k l₀ l.part l.k ends inv.1 inv.2 ys y ((rw w at c.on.auto.column) ∙ lent),
      rw w (changed-turn f k l₀ l.part l.k ends inv.1 inv.2 ys y),
    )
