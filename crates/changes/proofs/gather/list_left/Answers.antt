use borrow.Author.Rules.{rules}
use Prim.Native.Nat.{ℕ, ◌<◌, ◌+◌, ◌/◌, ◌%◌}
use mathlib.Core.Path.{◌≡◌, refl, subst, ◌∙◌}
use native.Mathlib.Omega.{arith}
use lib.Dec.{lit<}
use lib.ListN.{length, get_or, length-set, set}
use Rattle.changes.specs.vocabulary.Bits.{marks_in}
use Rattle.changes.specs.vocabulary.Marks.{Lists}
use Rattle.changes.proofs.BitLaws.{mark-with, bit-even, bit-odd}
use Rattle.changes.proofs.Lefts.{lists-start, lists-left, lists-marked}
use Rattle.changes.proofs.gather.list_left.Goals as goal
use Rattle.changes.proofs.gather.list_left.Goals.{else-w-i-eq0, then-w-i-eq0}

pub loop-i-init : goal.loop-i-init
loop-i-init c =
    (search rules, search rules, refl, lists-start (marks_in c.args.marks.now) c.args.from c.args.slots.now)

pub bounds-slots-n : goal.bounds-slots-n
bounds-slots-n c =
    let l = c.loop-i in
    omega (arith, l.invariant.2, l.invariant.3.few, c.requires.0, c.requires.2.same l.i l.invariant.0 c.loop-i-test.true)

pub loop-i-preserved : goal.loop-i-preserved
loop-i-preserved c =
    let l = c.loop-i in
    let marks = c.args.marks.now in
    let ms = marks_in marks in
    let w = get_or marks (c.args.from / 64) 0 in
    let test = c.loop-i-test.true in
    let word = c.requires.2.same l.i l.invariant.0 test in
    let room : l.n < length l.slots = omega (arith, l.invariant.2, l.invariant.3.few, c.requires.0, word) in
    let is = mark-with 64 (lit< tt) marks c.args.from l.i word in
    let listed : Lists ms c.args.from (l.i + 1) (set l.slots l.n l.i) c.if-w-i-eq0.n =
    (elim c.if-w-i-eq0.branch [ then-w-i-eq0 q ↦ rw q.n-is (lists-left ms c.args.from l.slots l.i l.n l.invariant.3 room (is ∙ bit-even w (l.i % 64) q.if-w-i-eq0.true)) | else-w-i-eq0 q ↦ rw q.n-is (lists-marked ms c.args.from l.slots l.i l.n l.invariant.3 room (is ∙ bit-odd w (l.i % 64) q.if-w-i-eq0.false)) ]) in
    (search rules, search rules, length-set l.slots l.n l.i ∙ l.invariant.2, listed)

pub returns : goal.returns
returns c =
    let l = c.loop-i in
    let e : l.i ≡ c.args.end = omega (arith, l.invariant.1, c.loop-i-test.false) in
    subst (λ (i : ℕ). Lists (marks_in c.args.marks.now) c.args.from i l.slots l.n) e l.invariant.3
