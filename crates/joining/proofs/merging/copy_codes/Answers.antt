use native.Mathlib.Omega.{arith}
use mathlib.Core.Path.{refl, ap, ◌∙◌}
use lib.ListN.{length, length-set}
use lib.Seq.{take_all}
use Rattle.rows.specs.Lists.{pad}
use Rattle.joining.specs.vocabulary.Merged.{CODES, in_codes}
use Rattle.joining.proofs.NewEntries.{copied_more}
use Rattle.joining.proofs.merging.copy_codes.Goals as goal

pub loop-i-init : goal.loop-i-init
unfolding pad
loop-i-init c = (refl, omega arith, c.requires, refl, refl)

pub loop-i-preserved : goal.loop-i-preserved
loop-i-preserved c =
    let l = c.loop-i in
    let a = c.args in
    let more = copied_more a.codes.now l.copied l.i (omega arith) (omega arith) l.invariant.4 in
    (refl, omega arith, l.invariant.2, length-set l.copied l.i _ ∙ l.invariant.3, more)

pub returns : goal.returns
unfolding in_codes
returns c =
    let l = c.loop-i in
    let a = c.args in
    let all = l.invariant.4 ∙ ap (pad 0 CODES) (take_all l.i a.codes.now (omega arith)) in
    λ j. record { count = length a.codes.now; codes = all j }
