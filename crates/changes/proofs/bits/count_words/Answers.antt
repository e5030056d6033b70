use borrow.Author.Rules.{rules}
use Prim.Native.Nat.{ℕ, ◌+◌, ◌*◌}
use mathlib.Core.Path.{◌≡◌, refl, ap₂, sym, subst, ◌∙◌}
use native.Mathlib.Omega.{arith}
use Rattle.changes.specs.vocabulary.Bits.{marks_in, gones}
use Rattle.changes.proofs.BitLaws.{gones-word}
use Rattle.changes.proofs.bits.count_words.Goals as goal

pub loop-k-init : goal.loop-k-init
unfolding gones
loop-k-init c = (search rules, search rules, refl)

pub loop-k-preserved : goal.loop-k-preserved
loop-k-preserved c =
    let marks = c.args.marks.now in
    (search rules, search rules, ap₂ (λ (x y : ℕ). x + y) c.loop-k.invariant.2 c.count_bits-total.ensures.counted ∙ sym (gones-word 64 marks c.loop-k.k))

pub returns : goal.returns
returns c =
    let e : c.loop-k.k ≡ c.args.words = omega (arith, c.loop-k.invariant.0, c.loop-k-test.false) in
    subst (λ (k : ℕ). c.loop-k.total ≡ gones (marks_in c.args.marks.now) (k * 64)) e c.loop-k.invariant.2
