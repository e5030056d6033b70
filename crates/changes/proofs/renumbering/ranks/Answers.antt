use borrow.Author.Rules.{rules}
use Prim.Native.Nat.{ℕ, ◌-◌, ◌+◌, zero-le}
use mathlib.Core.Path.{◌≡◌, refl, subst, ◌∙◌}
use native.Mathlib.Nat.{le_refl}
use native.Mathlib.Omega.{arith}
use Rattle.changes.specs.vocabulary.Bits.{marks_in}
use Rattle.changes.specs.vocabulary.Marks.{Ranked}
use Rattle.changes.proofs.Renumber.{rank-start, rank-run}
use Rattle.changes.proofs.renumbering.ranks.Goals as goal

pub ranks_run-requires : goal.ranks_run-requires
ranks_run-requires c =
    (zero-le, omega (arith, c.requires.sizes), omega arith, omega (arith, c.requires.sizes))

pub loop-i-init : goal.loop-i-init
loop-i-init c =
    let called = c.ranks_run in
    let ms = marks_in c.args.marks.now in
    let first : ℕ = c.args.first in
    let e : 1 + (first - 0) ≡ first + 1 = omega arith in (
      c.requires.sizes.0,
      search rules,
      refl,
      subst (λ (j : ℕ). Ranked ms called.new.to first j) e
          (rank-run ms c.args.to.now called.new.to 0 first 1 zero-le c.requires.clear called.ensures (rank-start ms c.args.to.now c.requires.none)),
    )

pub ranks_word-next-requires : goal.ranks_word-next-requires
ranks_word-next-requires c =
    let e = c.word_end-end.ensures in
    let l = c.loop-i in
    let kept = c.ranks_run.auto.to in
    record { sizes = (omega (arith, e.within, c.requires.sizes), l.invariant.1, omega (arith, e.within, l.invariant.2, kept, c.requires.sizes)); word = record { after = e.after; within = le_refl c.word_end-end.result; same = e.same } }

pub loop-i-smaller : goal.loop-i-smaller
loop-i-smaller c = let e = c.word_end-end.ensures in omega (arith, e.after, e.within)

pub loop-i-preserved : goal.loop-i-preserved
loop-i-preserved c =
    let called = c.ranks_word-next in
    let e = c.word_end-end.ensures in
    let l = c.loop-i in
    (e.within, called.ensures.within, called.auto.to ∙ l.invariant.2, called.ensures.ranked l.invariant.3)

pub shape_of-to : goal.shape_of-to
shape_of-to c = c.loop-i.invariant.2 ∙ c.ranks_run.auto.to

pub returns : goal.returns
returns c =
    let l = c.loop-i in
    λ s h. l.invariant.3.right s (omega (arith, c.loop-i-test.false))
