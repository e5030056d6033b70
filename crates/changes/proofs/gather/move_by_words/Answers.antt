use borrow.Author.Rules.{rules}
use Prim.Native.Nat.{ℕ, ◌≤◌, ◌+◌}
use native.Mathlib.Nat.{le_refl}
use native.Mathlib.Omega.{arith}
use mathlib.Core.Path.{◌≡◌, sym, subst, ◌∙◌}
use Rattle.changes.specs.vocabulary.Bits.{marks_in}
use Rattle.changes.specs.vocabulary.Marks.{Moved}
use Rattle.changes.proofs.Lefts.{lefts-le, lefts-clear, lefts-up, still-some, all-marked}
use Rattle.changes.proofs.Parts.{moved-start, moved-skip}
use Rattle.changes.proofs.gather.move_by_words.Goals as goal

pub loop-j-init : goal.loop-j-init
loop-j-init c =
    let ms = marks_in c.args.marks.now in
    let first : ℕ = c.args.first in (
      c.requires.sizes.1,
      sym (lefts-clear ms first first c.requires.clear (le_refl first)),
      c.requires.sizes.0,
      moved-start ms c.args.size c.args.columns c.args.part.now first c.requires.clear,
    )

pub word_end-end-requires : goal.word_end-end-requires
word_end-end-requires c =
    let l = c.loop-j in
    let ms = marks_in c.args.marks.now in
    (still-some ms l.i c.args.count l.invariant.0 (omega (arith, c.loop-j-test.true, l.invariant.1, c.requires.kept)), c.requires.sizes.3)

pub gather_word-j-requires : goal.gather_word-j-requires
gather_word-j-requires c =
    let e = c.word_end-end.ensures in
    let l = c.loop-j in
    let low = lefts-le (marks_in c.args.marks.now) l.i in record { sizes = (l.invariant.2, omega (arith, l.invariant.1, low), omega (arith, e.within, c.requires.sizes), omega (arith, e.within, c.requires.sizes)); word = record { after = e.after; within = le_refl c.word_end-end.result; same = e.same } }

pub overflow_add-j : goal.overflow_add-j
overflow_add-j c =
    let called = c.gather_word-j in
    let e = c.word_end-end in
    let l = c.loop-j in
    let low = lefts-le (marks_in c.args.marks.now) e.result in
    let h : l.j + called.result ≤ 1024 = omega (arith, called.ensures.number, l.invariant.1, low, e.ensures.within, c.requires.sizes.3) in
    search rules

pub loop-j-smaller : goal.loop-j-smaller
loop-j-smaller c =
    let e = c.word_end-end.ensures in
    omega (arith, e.after, e.within)

pub loop-j-preserved : goal.loop-j-preserved
loop-j-preserved c =
    let called = c.gather_word-j in
    let e = c.word_end-end.ensures in
    let l = c.loop-j in
    (e.within, omega (arith, called.ensures.number, l.invariant.1), called.auto.part ∙ l.invariant.2, called.ensures.moved c.args.part.now c.requires.sizes.0 l.invariant.3)

pub returns : goal.returns
returns c =
    let l = c.loop-j in
    let ms = marks_in c.args.marks.now in
    let count : ℕ = c.args.count in
    let same : l.j ≡ c.args.kept = omega (arith, c.loop-j-test.false, l.invariant.1, c.requires.kept, lefts-up ms l.i count l.invariant.0) in
    subst (λ (k : ℕ). Moved ms c.args.size c.args.columns c.args.part.now l.part count k) same
    (moved-skip ms c.args.size c.args.columns count c.args.part.now l.part l.i l.j c.requires.sizes.0 l.invariant.0 c.requires.sizes.2
    (all-marked ms l.i count (omega (arith, same, l.invariant.1, c.requires.kept))) l.invariant.3)
