use native.Mathlib.Omega.{arith}
use mathlib.Core.List.{◌++◌}
use mathlib.Core.Path.{◌≡◌, refl, ap, ◌∙◌}
use lib.ListN.{length, set, length-set}
use lib.Seq.{paste}
use Rattle.page.specs.Page.{spaces}
use Rattle.page.specs.vocabulary.Columns.{byte_or_space}
use Rattle.page.proofs.ColumnLaws.{left-more, left-whole}
use Rattle.page.proofs.columns.put_left.Goals as goal

pub loop-i-init : goal.loop-i-init
loop-i-init c = (refl, omega arith, refl)

pub loop-i-preserved : goal.loop-i-preserved
loop-i-preserved c =
    let l = c.loop-i in
    let a = c.args in
    let d = a.columns.now in
    let t = a.text.now in (
      length-set l.columns l.i c.byte_or_space.result ∙ l.invariant.0,
      omega arith,
      rw c.byte_or_space.ensures (ap (λ x. set x l.i (byte_or_space t l.i)) l.invariant.2 ∙ left-more d t l.i (omega arith)),
    )

pub returns : goal.returns
returns c =
    let l = c.loop-i in
    let a = c.args in
    let d = a.columns.now in
    let t = a.text.now in
    let whole : l.i ≡ length d = omega arith in
    l.invariant.2 ∙ ap (paste d 0 (t ++ spaces (length d))) whole ∙ left-whole d t
