use borrow.Author.Rules.{rules}
use Prim.Native.Nat.{ℕ, ◌*◌, ◌-◌, ◌+◌}
use native.Mathlib.Omega.{arith}
use mathlib.Core.List.{◌++◌}
use mathlib.Core.Path.{◌≡◌, refl, sym, ap, ◌∙◌}
use lib.ListN.{length, drop}
use Rattle.rows.specs.Layout.{rows_in}
use Rattle.page.specs.Page.{lines_from}
use Rattle.page.specs.vocabulary.Columns.{WIDTH, LINE, lines_fit}
use Rattle.page.proofs.PageLaws.{line-written, fit_all, fit-full}
use Rattle.page.proofs.lines.write_lines.Goals as goal

pub loop-i-init : goal.loop-i-init
unfolding lines_from
loop-i-init c =
    let a = c.args in
    let none : a.from - a.from ≡ 0 = omega arith in
    (omega arith, omega arith, refl, omega arith, rw none refl)

pub slice_bounds-write_line-end : goal.slice_bounds-write_line-end
slice_bounds-write_line-end c =
    let l = c.loop-i in
    let room = c.if-out-n-lt-LINE.false in
    search rules

pub bounds-out-n : goal.bounds-out-n
bounds-out-n c =
    let l = c.loop-i in
    let room = c.if-out-n-lt-LINE.false in
    let same = c.out-1.given.1 in
    omega (arith, room, same)

pub loop-i-preserved : goal.loop-i-preserved
loop-i-preserved c =
    let a = c.args in
    let l = c.loop-i in
    let more = c.loop-i-test.true in
    let room = c.if-out-n-lt-LINE.false in
    let written = line-written a.t.now a.out.now l.out _ a.from l.i l.n (l.n + WIDTH - l.n) (omega arith) l.auto.i l.invariant.1 l.invariant.2 room l.invariant.4 c.write_line.ensures in (
      omega (arith, l.auto.i, more),
      omega (arith, l.auto.i, l.invariant.1),
      written.0,
      omega (arith, room, l.invariant.2),
      written.1,
    )

pub returns-then-out-n-lt-LINE : goal.returns-then-out-n-lt-LINE
returns-then-out-n-lt-LINE c =
    let a = c.args in
    let l = c.loop-i in
    let k = l.i - a.from in
    let counted = c.rows_in-rows.ensures.counted in
    let few = l.invariant.0 in
    let full = c.if-out-n-lt-LINE.true in
    let fit : lines_fit (rows_in a.t.now) a.from (length a.out.now) ≡ k =
    rw (← counted) (fit-full _ a.from (length a.out.now) k (omega (arith, c.loop-i-test.true, l.auto.i)) (omega (arith, l.invariant.1, l.invariant.3)) (omega (arith, full, l.invariant.1, l.invariant.2))) in
    record {
      count = l.invariant.1 ∙ ap (λ (m : ℕ). LINE * m) (sym fit);
      lines = l.invariant.4 ∙ ap (λ (m : ℕ). lines_from a.t.now a.from m ++ drop l.n a.out.now) (sym fit);
    }

pub returns-after-loop-i : goal.returns-after-loop-i
returns-after-loop-i c =
    let a = c.args in
    let l = c.loop-i in
    let k = l.i - a.from in
    let counted = c.rows_in-rows.ensures.counted in
    let few = l.invariant.0 in
    let fit : lines_fit (rows_in a.t.now) a.from (length a.out.now) ≡ k =
    rw (← counted) (fit_all _ a.from (length a.out.now) k few (omega (arith, l.invariant.1, l.invariant.3)) (omega (arith, c.loop-i-test.false, l.auto.i))) in
    record {
      count = l.invariant.1 ∙ ap (λ (m : ℕ). LINE * m) (sym fit);
      lines = l.invariant.4 ∙ ap (λ (m : ℕ). lines_from a.t.now a.from m ++ drop l.n a.out.now) (sym fit);
    }
