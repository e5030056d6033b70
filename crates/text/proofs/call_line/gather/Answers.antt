use Prim.Native.Nat.{◌-◌, ◌<◌}
use native.Mathlib.Omega.{arith}
use mathlib.Core.Path.{◌≡◌, refl, ap, ◌∙◌}
use borrow.Author.Tests.{not-true, not-false}
use Rattle.rows.specs.Lists.{bytes, pad, all, distinct}
use Rattle.text.specs.vocabulary.Groups.{groups_from, seen_with}
use Rattle.text.specs.declared.Seen.{Seen}
use Rattle.text.proofs.GroupLaws.{gathering-starts, gathering-stops, gathering-goes-on, gathering-ends}
use Rattle.text.proofs.PatternLaws.{form_of}
use Rattle.text.proofs.call_line.gather.Goals as goal

pub loop-n-init : goal.loop-n-init
unfolding bytes groups_from pad all distinct
loop-n-init c = (refl, gathering-starts 64 _ _ _ refl)

pub returns-then-not-f : goal.returns-then-not-f
unfolding bytes
returns-then-not-f c =
    let line = c.args.line.now in
    let l = c.loop-n in
    let is = c.read_form-f.ensures ∙ form_of line l.s.next _ " (# #)" refl in
    c.groups_of.ensures ∙ gathering-stops 64 line c.args.at _ l.invariant.1 c.read_form-f.result is (not-true _ c.if-not-f.true)

pub see_group-s-requires : goal.see_group-s-requires
see_group-s-requires c = omega (arith, c.loop-n.invariant.0, c.loop-n-test.true)

pub loop-n-preserved : goal.loop-n-preserved
unfolding bytes seen_with
loop-n-preserved c =
    let line = c.args.line.now in
    let l = c.loop-n in
    let same = l.invariant.0 in
    let is = c.read_form-f.ensures ∙ form_of line l.s.next _ " (# #)" refl in
    let z : l.s.count - 0 ≡ l.s.count = omega arith in
    let zn : l.n - 0 ≡ l.s.count = omega (arith, same) in
    let good = not-false _ c.if-not-f.false in
    let few : l.s.count < 64 = omega (arith, same, c.loop-n-test.true) in
    let more = gathering-goes-on 64 line c.args.at _ l.invariant.1 c.read_form-f.result is good few few in
    let counted = ap (λ (x : Seen). x.count) c.see_group-s.ensures in
    (omega (arith, same, counted), rw (c.see_group-s.ensures, c.is_named-named.ensures, zn, ← same) more)

pub returns : goal.returns
returns c =
    let args = c.args in
    let l = c.loop-n in
    c.groups_of-2.ensures ∙ gathering-ends 64 args.line.now args.at _ l.invariant.1 (omega (arith, l.invariant.0))
