use native.Mathlib.Omega.{arith}
use mathlib.Core.Path.{refl, sym}
use Rattle.rows.specs.Lists.{all}
use Rattle.text.specs.vocabulary.Openings.{entries_read}
use Rattle.text.proofs.OpeningLaws.{entering-starts, entering-stops, entering-goes-on, entering-ends}
use Rattle.text.proofs.opening_lines.entries_at.Goals as goal

pub loop-n-init : goal.loop-n-init
unfolding entries_read all
loop-n-init c = (refl, entering-starts 64 _ _ _ refl)

pub returns-in_default : goal.returns-in_default
returns-in_default c =
    let a = c.args in
    entering-stops 64 a.line.now a.at c.loop-n.r c.loop-n.invariant.1 (sym c.in_default.ensures)

pub loop-n-preserved : goal.loop-n-preserved
loop-n-preserved c =
    let a = c.args in
    let l = c.loop-n in
    let more = entering-goes-on 64 a.line.now a.at l.r l.invariant.1 c.in-Some.entry c.in-Some.next (sym c.in-Some.ensures) (omega (arith, l.invariant.0)) in
    (refl, rw (c.entry_ranged.ensures, ← l.invariant.0) more)

pub returns : goal.returns
returns c =
    let a = c.args in
    entering-ends 64 a.line.now a.at c.loop-n.r c.loop-n.invariant.1 (omega (arith, c.loop-n.invariant.0))
