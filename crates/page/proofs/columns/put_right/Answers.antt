use Prim.Native.Nat.{ℕ, suc, ◌-◌}
use native.Mathlib.Omega.{arith}
use mathlib.Core.Path.{◌≡◌, refl, ap, ◌∙◌}
use lib.ListN.{length, length-set}
use Rattle.text.specs.Answers.{digits_of}
use Rattle.page.specs.Page.{right_in}
use Rattle.page.proofs.ColumnLaws.{before, right-start, before_more}
use Rattle.page.proofs.columns.put_right.Goals as goal

pub loop-i-init : goal.loop-i-init
loop-i-init c =
    let a = c.args in
    let d = a.columns.now in
    let b = c.last_digit.result in
    (refl, omega (arith, length-set d (length d - 1) b), rw (c.last_digit.ensures, c.from-value.ensures) (right-start d a.n (omega arith) (omega arith)))

pub loop-i-preserved : goal.loop-i-preserved
loop-i-preserved c =
    let l = c.loop-i in
    let one : suc (l.i - 1) ≡ l.i = omega arith in
    let so_far = l.invariant.2 in (
      length-set l.columns (l.i - 1) c.digit_or_space.result ∙ l.invariant.0,
      omega arith,
      rw c.digit_or_space.ensures (before_more l.columns (l.i - 1) l.left _ (omega arith) (rw one so_far)),
    )

pub shape_of-columns : goal.shape_of-columns
shape_of-columns c =
    let l = c.loop-i in
    let d = c.args.columns.now in
    l.invariant.0 ∙ length-set d (length d - 1) c.last_digit.result

pub returns : goal.returns
unfolding before
returns c =
    let l = c.loop-i in
    let a = c.args in
    let d = a.columns.now in
    let done : l.i ≡ 0 = omega arith in
    let all = l.invariant.2 in
    rw done at all ∙ ap (λ (w : ℕ). right_in w (digits_of a.n)) (length-set d (length d - 1) c.last_digit.result)
