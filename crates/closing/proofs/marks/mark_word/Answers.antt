use borrow.Author.Rules.{rules}
use Prim.Native.Nat.{ℕ, ◌<◌, ◌+◌, ◌*◌, ◌/◌, ◌%◌, ◌^◌}
use mathlib.Core.Bool.{Bool, true, false}
use mathlib.Core.List.{List}
use mathlib.Core.Path.{◌≡◌, refl, ap, sym, subst, ◌∙◌}
use native.Mathlib.Omega.{arith}
use lib.Bits.{bit_or}
use lib.Dec.{lit<}
use lib.ListN.{get_or, set}
use lib.Seq.{get_or-set_other}
use Rattle.changes.specs.vocabulary.Bits.{marks_in}
use Rattle.changes.proofs.BitLaws.{Holds, holds-set, word_set}
use Rattle.closing.specs.vocabulary.Marks.{MarksOn, DerivedTo}
use Rattle.closing.proofs.MarksRows.{marks-on}
use Rattle.closing.proofs.marks.mark_word.Goals as goal
use Rattle.closing.proofs.marks.mark_word.Goals.{else-derives, then-derives}

-- the local's word with the bit of slot i, stored where the slots from one on have theirs
set_here : (ws : List ℕ) (from i w : ℕ) → i / 64 ≡ from / 64 → Holds ws (from / 64) w
    → marks_in (set ws (from / 64) (bit_or w ((1 * 2 ^ (i % 64)) % 2 ^ 64))) ≡ set (marks_in ws) i true
set_here ws from i w same =
    subst (λ (q : ℕ). Holds ws q w → marks_in (set ws q (bit_or w ((1 * 2 ^ (i % 64)) % 2 ^ 64))) ≡ set (marks_in ws) i true) same (word_set 64 (lit< tt) ws i w)

pub loop-i-init : goal.loop-i-init
loop-i-init c = (search rules, search rules, (λ h. refl), c.requires.clear, (λ st s rep few d. d))

pub derives-requires : goal.derives-requires
derives-requires c = c.loop-i.invariant.3

pub loop-i-preserved : goal.loop-i-preserved
loop-i-preserved c =
    let called = c.derives in
    let test = c.loop-i-test.true in
    let l = c.loop-i in
    let a = c.args in
    let t = a.t.now in
    let ms = marks_in l.marks in
    let room : l.i < 1024 = omega (arith, test, c.requires.sizes.2) in
    (elim c.if-derives.branch [
      | then-derives w ↦ let is = set_here l.marks a.from l.i l.w (c.requires.word.same l.i l.invariant.0 test) l.invariant.2 in
          rw (w.marks-is, w.w-is) (
            search rules,
            search rules,
            holds-set l.marks (a.from / 64) (bit_or l.w ((1 * 2 ^ (l.i % 64)) % 2 ^ 64)),
            (λ x h k. ap (λ (l : List Bool). get_or l x false) is ∙ get_or-set_other ms l.i x true false (λ e. omega (arith, l.invariant.0, c.requires.sizes.1)) ∙ l.invariant.3 x h k),
            subst (λ (l : List Bool). MarksOn t a.from (c.loop-i.i + 1) (marks_in a.marks.now) l) (sym is)
                (marks-on t a.from l.i (marks_in a.marks.now) ms true room (λ x y. sym w.if-derives.true ∙ called.ensures x y) l.invariant.4),
          )
      | else-derives w ↦ rw (w.marks-is, w.w-is) (
        search rules,
        search rules,
        l.invariant.2,
        l.invariant.3,
        marks-on t a.from l.i (marks_in a.marks.now) ms false room (λ x y. sym w.if-derives.false ∙ called.ensures x y) l.invariant.4,
      )
    ])

pub returns : goal.returns
returns c =
    let l = c.loop-i in
    let e : l.i ≡ c.args.end = omega (arith, l.invariant.1, c.loop-i-test.false) in
    record { clear = l.invariant.3; marks = (λ st q rep few d. subst (λ (i : ℕ). DerivedTo q st i (marks_in l.marks)) e (l.invariant.4 st q rep (rw e few) d)) }
