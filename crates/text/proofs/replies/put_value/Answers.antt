use Prim.Native.Nat.{ℕ, ◌+◌, ◌-◌}
use native.Mathlib.Omega.{arith}
use mathlib.Core.List.{List, append-nil}
use mathlib.Core.Path.{◌∙◌, refl, ap}
use lib.Dec.{leb, ltb}
use lib.ListN.{length, set, take, drop, length-set}
use borrow.Author.Tests.{ltb-true}
use Rattle.rows.proofs.Bools.{and_r}
use Rattle.text.specs.Answers.{decimal}
use Rattle.text.specs.vocabulary.Sizes.{VALUE}
use Rattle.text.proofs.ReplyLaws.{digit-more, value-whole, puts-as}
use Rattle.text.proofs.replies.put_value.Goals as goal

pub loop-left-init : goal.loop-left-init
loop-left-init c = (omega arith, omega arith, refl, append-nil (decimal 10 c.args.n))

pub loop-left-preserved : goal.loop-left-preserved
loop-left-preserved c =
    let l = c.loop-left in
    let n = c.args.n in
    let more = ltb-true 1 l.i (and_r (leb 10 l.left) (ltb 1 l.i) c.loop-left-test.true) in (
      omega (arith, more),
      omega (arith, l.invariant.1),
      length-set l.value l.i c.last_digit.result ∙ l.invariant.2,
      rw c.last_digit.ensures (digit-more l.i l.left l.value (decimal 10 n) c.loop-left-test.true (omega arith) l.invariant.3),
    )

pub slice_bounds-put_text-end : goal.slice_bounds-put_text-end
slice_bounds-put_text-end c =
    let l = c.loop-left in
    let b = c.last_digit-2.result in
    omega (arith, length-set (set l.value l.i b) (l.i - 1) 32, length-set l.value l.i b, l.invariant.2)

pub returns : goal.returns
returns c =
    let l = c.loop-left in
    let a = c.args in
    let whole = value-whole l.i l.left a.n l.value l.invariant.2 l.invariant.0 l.invariant.1 c.loop-left-test.false l.invariant.3 in
    let printed : ℕ → List ℕ = λ d. take (VALUE - (l.i - 1)) (drop (l.i - 1) (set (set l.value l.i d) (l.i - 1) 32)) in
    let same = ap printed c.last_digit-2.ensures ∙ whole in
    record { put = puts-as _ _ same c.put_text.ensures.put; grown = omega arith; exact = c.put_text.ensures.grown ∙ ap (λ (t : List ℕ). a.at + length t) same }
