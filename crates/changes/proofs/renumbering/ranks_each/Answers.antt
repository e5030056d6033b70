use borrow.Author.Rules.{rules}
use Prim.Native.Nat.{ℕ, ◌≤◌, ◌<◌, ◌+◌, ◌/◌, ◌%◌}
use mathlib.Core.Path.{◌≡◌, refl, subst, ◌∙◌}
use native.Mathlib.Omega.{arith}
use lib.Dec.{lit<}
use lib.ListN.{length, get_or, length-set, set}
use Rattle.changes.specs.vocabulary.Bits.{marks_in}
use Rattle.changes.specs.vocabulary.Marks.{RanksOn}
use Rattle.changes.proofs.BitLaws.{mark-with, bit-even, bit-odd}
use Rattle.changes.proofs.Renumber.{rank_left, rank-marked}
use Rattle.changes.proofs.renumbering.ranks_each.Goals as goal
use Rattle.changes.proofs.renumbering.ranks_each.Goals.{else-w-i-eq0, then-w-i-eq0}

pub loop-i-init : goal.loop-i-init
loop-i-init c = (search rules, search rules, search rules, refl, (λ p. p))

pub loop-i-preserved : goal.loop-i-preserved
loop-i-preserved c =
    let l = c.loop-i in
    let marks = c.args.marks.now in
    let ms = marks_in marks in
    let w = get_or marks (c.args.from / 64) 0 in
    let test = c.loop-i-test.true in
    let h : l.i + 1 < length l.to = omega (arith, l.invariant.3, test, c.requires.sizes.2) in
    let is = mark-with 64 (lit< tt) marks c.args.from l.i (c.requires.word.same l.i l.invariant.0 test) in
    let r : RanksOn ms c.args.from (l.i + 1) c.args.start c.args.to.now (set l.to (l.i + 1) l.next) c.if-w-i-eq0.next =
    λ p.
    (elim c.if-w-i-eq0.branch [ then-w-i-eq0 q ↦ rw q.next-is (rank_left ms l.to l.i l.next (l.invariant.4 p) h (is ∙ bit-even w (l.i % 64) q.if-w-i-eq0.true)) | else-w-i-eq0 q ↦ rw q.next-is (rank-marked ms l.to l.i l.next (l.invariant.4 p) h (is ∙ bit-odd w (l.i % 64) q.if-w-i-eq0.false)) ]) in
    let few : c.if-w-i-eq0.next ≤ (l.i + 1) + 1 =
    (elim c.if-w-i-eq0.branch [ then-w-i-eq0 q ↦ omega (arith, q.next-is, l.invariant.2) | else-w-i-eq0 q ↦ omega (arith, q.next-is, l.invariant.2) ]) in
    (search rules, search rules, few, length-set l.to (l.i + 1) l.next ∙ l.invariant.3, r)

pub returns : goal.returns
returns c =
    let l = c.loop-i in
    let e : l.i ≡ c.args.end = omega (arith, l.invariant.1, c.loop-i-test.false) in
    let ms = marks_in c.args.marks.now in
    record { within = omega (arith, l.invariant.2, e); ranked = subst (λ (i : ℕ). RanksOn ms c.args.from i c.args.start c.args.to.now l.to l.next) e l.invariant.4 }
