use borrow.Author.Rules.{rules}
use Prim.Native.Nat.{ℕ, ◌≤◌, ◌<◌, ◌-◌, ◌+◌}
use native.Mathlib.Nat.{le_refl, eq-or-lt_of_le}
use native.Mathlib.Omega.{arith}
use mathlib.Core.Logic.{⊎_elim}
use mathlib.Core.Path.{◌≡◌, sym, subst, ◌∙◌}
use Rattle.changes.specs.vocabulary.Bits.{marks_in}
use Rattle.changes.specs.vocabulary.Marks.{Moved}
use Rattle.changes.proofs.Lefts.{lefts-le, lefts-clear, lefts-marked, lefts-run, lefts-up, still-some, all-marked}
use Rattle.changes.proofs.Parts.{moved-start, moved-skip, moved-run}
use Rattle.changes.proofs.Slide.{run-forth}
use Rattle.changes.proofs.runs.move_by_runs.Goals as goal

pub loop-j-init : goal.loop-j-init
loop-j-init c =
    let ms = marks_in c.args.marks.now in
    let first : ℕ = c.args.first in (
      le_refl first,
      c.requires.sizes.1,
      sym (lefts-clear ms first first c.requires.clear (le_refl first)),
      (λ i h k. absurd (omega arith)),
      c.requires.sizes.0,
      moved-start ms c.args.size c.args.columns c.args.part.now first c.requires.clear,
    )

pub next_left-b-requires : goal.next_left-b-requires
next_left-b-requires c = (c.loop-j.invariant.1, c.requires.sizes.3)

pub next_marked-f-requires : goal.next_marked-f-requires
next_marked-f-requires c = (c.next_left-b.ensures.within, c.requires.sizes.3)

pub overflow_sub-len : goal.overflow_sub-len
overflow_sub-len c = c.loop-j.invariant.0

pub on_each-requires : goal.on_each-requires
on_each-requires c =
    let l = c.loop-j in
    let low = lefts-le (marks_in c.args.marks.now) l.a in
    record { sizes = l.invariant.4; fits = (omega (arith, l.invariant.2, low), omega (arith, l.invariant.0, l.invariant.1, c.requires.sizes)) }

pub overflow_add-j : goal.overflow_add-j
overflow_add-j c =
    let l = c.loop-j in
    let low = lefts-le (marks_in c.args.marks.now) l.a in
    let h : l.j + (l.e - l.a) ≤ 1024 = omega (arith, l.invariant.0, l.invariant.1, l.invariant.2, low, c.requires.sizes.3) in
    search rules

pub loop-j-smaller : goal.loop-j-smaller
loop-j-smaller c =
    let marked = c.next_left-b in
    let clear = c.next_marked-f in
    let l = c.loop-j in
    let ms = marks_in c.args.marks.now in
    let count : ℕ = c.args.count in
    let some : l.a < count =
    still-some ms l.a count (omega (arith, l.invariant.0, l.invariant.1)) (omega (arith, c.loop-j-test.true, l.invariant.2, c.requires.kept)) in
    let on = marked.ensures.after in
    ⊎_elim (λ (last : l.e ≡ count). omega (arith, some, last, on, clear.ensures.after))
    (λ (lt : l.e < count).
    omega (arith, run-forth ms count l.e marked.result clear.result lt marked.ensures clear.ensures, on, l.invariant.0, some, clear.ensures.within))
    (eq-or-lt_of_le l.invariant.1)

pub loop-j-preserved : goal.loop-j-preserved
loop-j-preserved c =
    let slid = c.on_each in
    let marked = c.next_left-b in
    let clear = c.next_marked-f in
    let l = c.loop-j in
    let ms = marks_in c.args.marks.now in
    let size : ℕ = c.args.size in
    let part = c.args.part.now in
    let moved = lefts-run ms l.a l.e l.invariant.0 l.invariant.3 in
    let passed = lefts-marked ms l.e marked.result marked.ensures.after marked.ensures.passed in
    let low = lefts-le ms l.a in (
      clear.ensures.after,
      clear.ensures.within,
      omega (arith, l.invariant.2, moved, passed),
      clear.ensures.passed,
      slid.auto.part ∙ l.invariant.4,
      moved-skip ms size c.args.columns marked.result part slid.new.part l.e (l.j + (l.e - l.a)) c.requires.sizes.0
          marked.ensures.after (omega (arith, marked.ensures.within, c.requires.sizes.2)) marked.ensures.passed
          (moved-run ms size c.args.columns part l.part c.requires.sizes.0 l.invariant.4 l.a l.j l.e l.invariant.5 (omega (arith, l.invariant.2, low))
          l.invariant.0 (omega (arith, l.invariant.1, c.requires.sizes.2)) l.invariant.3 slid.new.part slid.ensures),
    )

pub returns : goal.returns
returns c =
    let l = c.loop-j in
    let ms = marks_in c.args.marks.now in
    let count : ℕ = c.args.count in
    let within : l.a ≤ count = omega (arith, l.invariant.0, l.invariant.1) in
    let same : l.j ≡ c.args.kept = omega (arith, c.loop-j-test.false, l.invariant.2, c.requires.kept, lefts-up ms l.a count within) in
    subst (λ (k : ℕ). Moved ms c.args.size c.args.columns c.args.part.now l.part count k) same
    (moved-skip ms c.args.size c.args.columns count c.args.part.now l.part l.a l.j c.requires.sizes.0 within c.requires.sizes.2
    (all-marked ms l.a count (omega (arith, same, l.invariant.2, c.requires.kept))) l.invariant.5)
