use borrow.Author.Rules.{rules}
use mathlib.Core.Path.{◌≡◌}
use native.Mathlib.Nat.{le_refl}
use native.Mathlib.Omega.{arith}
use lib.ListN.{length}
use Rattle.changes.specs.vocabulary.Bits.{marks_in}
use Rattle.closing.proofs.MarksRows.{derived-skip, derived-end}
use Rattle.closing.proofs.marks.mark_rows.Goals as goal

pub loop-i-init : goal.loop-i-init
loop-i-init c = let run = c.next_marked-first.ensures in (search rules, run.within, run.passed, (λ st s rep few d. d))

pub mark_word-requires : goal.mark_word-requires
mark_word-requires c =
    let e = c.word_end-end.ensures in
    let l = c.loop-i in
    record { sizes = (c.requires.0, l.invariant.0, omega (arith, e.within, c.requires.1)); word = record { after = e.after; within = le_refl c.word_end-end.result; same = e.same }; clear = l.invariant.2 }

pub loop-i-smaller : goal.loop-i-smaller
loop-i-smaller c = let e = c.word_end-end.ensures in omega (arith, e.after, e.within)

pub loop-i-preserved : goal.loop-i-preserved
loop-i-preserved c =
    let e = c.word_end-end.ensures in
    let l = c.loop-i in
    let called = c.mark_word in (
      omega (arith, e.after, l.invariant.0),
      e.within,
      called.ensures.clear,
      (λ st s rep few d. called.ensures.marks st s rep few (l.invariant.3 st s rep (omega (arith, e.after)) d)),
    )

pub returns : goal.returns
returns c =
    let l = c.loop-i in
    let run = c.next_marked-first in
    let seeds = c.mark_seeds-marks in
    let a = c.args in
    λ st rep count.
    let all : length st.rows ≡ l.i = omega (arith, c.loop-i-test.false, l.invariant.1) in
    let start = derived-skip rep a.s (marks_in seeds.result) run.result run.ensures.passed (seeds.ensures st rep count) run.result (le_refl run.result) in
    derived-end rep a.s l.i (marks_in l.marks) all (l.invariant.3 st a.s rep (omega (arith, all)) start)
