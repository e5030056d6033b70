use Prim.Native.Nat.{ℕ, ◌+◌, ◌*◌, ◌≤◌, ◌<◌}
use mathlib.Core.Path.{sym, subst}
use native.Mathlib.Nat.{lt_of_le_of_lt}
use native.Mathlib.Omega.{arith}
use lib.Count.{count_trailing_zeros, trailing_le}
use lib.Dec.{lit<}
use Rattle.changes.specs.vocabulary.Bits.{marks_in}
use Rattle.changes.specs.vocabulary.Marks.{EndsAt}
use Rattle.changes.proofs.NextSlot.{passes_on, ends_on, ends-none, none-in-word, found-in-word}
use Rattle.changes.proofs.runs.next_in_words.Goals as goal

pub loop-k-init : goal.loop-k-init
loop-k-init c = λ i h k. absurd (omega arith)

pub overflow_cast-w : goal.overflow_cast-w
overflow_cast-w c = record { fits = lt_of_le_of_lt (trailing_le 64 _) (lit< tt) }

pub overflow_add-k : goal.overflow_add-k
overflow_add-k c =
    let l = c.loop-k in
    let few : count_trailing_zeros 64 c.word_of-w.result ≤ 64 = trailing_le 64 c.word_of-w.result in
    record { fits = lt_of_le_of_lt (omega (arith, few, c.loop-k-test.true, c.requires.1)) (lit< {m = 1088} tt) }

pub returns-then-w-ne0 : goal.returns-then-w-ne0
returns-then-w-ne0 c =
    let w = c.word_of-w in
    let marks = c.args.marks.now in
    let m = c.args.marked in
    let k : ℕ = c.loop-k.k in
    let some : 0 < w.result = omega (arith, c.if-w-ne0.true) in
    λ from h few p.
    subst (λ (r : ℕ). EndsAt (marks_in marks) m from c.args.count r) (sym c.min.ensures)
    (ends_on (marks_in marks) m from (k * 64) c.args.count _ (omega (arith, h, c.loop-k.auto.k))
    (passes_on (marks_in marks) m from (c.args.word * 64) (k * 64) p c.loop-k.invariant)
    (found-in-word 64 marks m k w.result w.ensures.within w.ensures.bits some c.args.count (omega (arith, c.loop-k-test.true))))

pub loop-k-preserved : goal.loop-k-preserved
loop-k-preserved c =
    let w = c.word_of-w in
    let marks = c.args.marks.now in
    let m = c.args.marked in
    passes_on (marks_in marks) m (c.args.word * 64) (c.loop-k.k * 64) ((c.loop-k.k + 1) * 64) c.loop-k.invariant
    (none-in-word 64 marks m c.loop-k.k w.result w.ensures.within w.ensures.bits c.if-w-ne0.false)

pub returns : goal.returns
returns c =
    λ from h k p.
    ends-none (marks_in c.args.marks.now) c.args.marked from (c.loop-k.k * 64) c.args.count k (omega (arith, c.loop-k-test.false))
    (passes_on (marks_in c.args.marks.now) c.args.marked from (c.args.word * 64) (c.loop-k.k * 64) p c.loop-k.invariant)
