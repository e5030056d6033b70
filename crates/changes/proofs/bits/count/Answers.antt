-- The whole words, and the first bits of the next.
use borrow.Author.Rules.{rules}
use Prim.Native.Nat.{ℕ, ◌+◌, ◌*◌, ◌/◌, ◌≤◌}
use mathlib.Core.Path.{◌≡◌, ap, ap₂, sym, ◌∙◌}
use native.Mathlib.Omega.{arith}
use lib.Count.{ones}
use lib.Dec.{lit<}
use lib.ListN.{get_or}
use Rattle.changes.specs.vocabulary.Bits.{marks_in, gones}
use Rattle.changes.proofs.BitLaws.{mask-some, part-bits, gones-slots}
use Rattle.changes.proofs.Lefts.{gones-lefts}
use Rattle.changes.proofs.bits.count.Goals as goal

pub returns-then-rest-eq0 : goal.returns-then-rest-eq0
returns-then-rest-eq0 c =
    let e : c.args.slots / 64 * 64 ≡ c.args.slots = omega (arith, c.if-rest-eq0.true) in
    c.count_words-whole.ensures ∙ ap (gones (marks_in c.args.marks.now)) e

pub nonzero_rem-marks : goal.nonzero_rem-marks
nonzero_rem-marks c = let h = mask-some 64 (lit< tt) c.args.slots in search rules

pub overflow_add-result : goal.overflow_add-result
overflow_add-result c =
    let whole = c.count_words-whole in
    let few : whole.result ≤ 1024 = omega (arith, whole.ensures, gones-lefts (marks_in c.args.marks.now) (c.args.slots / 64 * 64), c.requires) in
    search rules

pub returns : goal.returns
returns c =
    let marks = c.args.marks.now in
    let slots : ℕ = c.args.slots in
    ap₂ (λ (x y : ℕ). x + y) c.count_words-whole.ensures (c.count_bits.ensures.counted ∙ ap ones (part-bits 64 (lit< tt) (get_or marks (slots / 64) 0) slots))
    ∙ sym (gones-slots 64 marks slots (lit< tt))
