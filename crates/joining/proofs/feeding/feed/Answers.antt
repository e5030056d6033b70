use borrow.Author.Rules.{rules}
use Prim.Native.Nat.{◌+◌}
use native.Mathlib.Omega.{arith}
use mathlib.Core.Path.{◌≡◌, refl, sym, ◌∙◌}
use lib.ListN.{length}
use lib.Seq.{length-take-le}
use Rattle.joining.specs.vocabulary.Reading.{is_going}
use Rattle.joining.proofs.ReadOn.{Feeding, feeding-starts, feeding-byte, feeding-line, over-told}
use Rattle.joining.proofs.feeding.feed.Goals as goal
use Rattle.joining.proofs.feeding.feed.Goals.{else-b-eq10, then-b-eq10}

pub loop-going-init : goal.loop-going-init
loop-going-init c = (omega arith, refl, refl, refl, c.is_going-going.ensures, feeding-starts c.args.part.now c.args.j c.args.n c.args.line.now c.args.first.now c.args.second.now)

pub keep_byte-kept-requires : goal.keep_byte-kept-requires
keep_byte-kept-requires c =
    let l = c.loop-going in
    let h = l.invariant.5.holds c.requires.texts c.requires.holds in
    let long = l.invariant.1 ∙ c.requires.long in
    (omega arith, h.short)

pub slice_bounds-line_ended-end : goal.slice_bounds-line_ended-end
slice_bounds-line_ended-end c =
    let l = c.loop-going in
    let long = c.line-1.given ∙ l.invariant.1 ∙ c.requires.long in
    omega (arith, long, c.keep_byte-kept.ensures.within)

pub slice_bounds-line_ended-end-then-b-eq10 : goal.slice_bounds-line_ended-end-then-b-eq10
slice_bounds-line_ended-end-then-b-eq10 c =
    let l = c.loop-going in
    let long = c.line-1.given ∙ l.invariant.1 ∙ c.requires.long in
    sym (length-take-le c.keep_byte-kept.result c.keep_byte-kept.new.line (omega (arith, long, c.keep_byte-kept.ensures.within)))

pub line_ended-here-requires : goal.line_ended-here-requires
line_ended-here-requires c =
    let l = c.loop-going in
    let h = l.invariant.5.holds c.requires.texts c.requires.holds in
    record { progress = _; holds = h.progress }

pub overflow_add-i : goal.overflow_add-i
overflow_add-i c = let more = c.if-i-part.true in search rules

pub loop-going-smaller : goal.loop-going-smaller
loop-going-smaller c = let l = c.loop-going in let more = c.if-i-part.true in omega arith

pub loop-going-preserved : goal.loop-going-preserved
loop-going-preserved c =
    let l = c.loop-going in
    let k = c.keep_byte-kept in
    let more = c.if-i-part.true in
    let next : (length c.if-b-eq10.first ≡ length c.args.first.now) × (length c.if-b-eq10.second ≡ length c.args.second.now) × (c.if-b-eq10.going ≡ is_going c.if-b-eq10.here.stage)
    × Feeding c.args.part.now c.args.j c.args.n c.args.line.now c.args.first.now c.args.second.now (l.i + 1) c.if-b-eq10.here c.if-b-eq10.kept k.new.line c.if-b-eq10.first c.if-b-eq10.second = (elim c.if-b-eq10.branch [
      | then-b-eq10 w ↦ rw (w.first-is, w.second-is, w.here-is, w.kept-is, w.going-is) (
        w.first-1.given ∙ l.invariant.2,
        w.second-1.given ∙ l.invariant.3,
        w.is_going-going-then-b-eq10.ensures,
        feeding-line c.args.part.now c.args.j c.args.n c.args.line.now c.args.first.now c.args.second.now l.i l.here l.kept l.line l.first l.second l.invariant.5 more k.result k.new.line k.ensures.kept k.ensures.within w.if-b-eq10.true w.line_ended-here.result _ _ w.line_ended-here.ensures,
      )
      | else-b-eq10 w ↦ rw (w.first-is, w.second-is, w.here-is, w.kept-is, w.going-is) (
        l.invariant.2,
        l.invariant.3,
        l.invariant.4,
        feeding-byte c.args.part.now c.args.j c.args.n c.args.line.now c.args.first.now c.args.second.now l.i l.here l.kept l.line l.first l.second l.invariant.5 more k.result k.new.line k.ensures.kept k.ensures.within w.if-b-eq10.false,
      )
    ]) in
    (omega (arith, more), c.line-1.given ∙ l.invariant.1, next.0, next.1, next.2, next.3)

pub returns-else-i-part : goal.returns-else-i-part
returns-else-i-part c =
    let l = c.loop-going in
    let h = l.invariant.5.holds c.requires.texts c.requires.holds in
    let all = c.if-i-part.false in
    record { fed = l.invariant.5.holds; ready = record { texts = _; holds = h; long = l.invariant.1 ∙ c.requires.long }; reads = record { within = l.invariant.0; stops = λ left. absurd (omega (arith, all, left)) } }

pub returns-after-loop-going : goal.returns-after-loop-going
returns-after-loop-going c =
    let l = c.loop-going in
    let h = l.invariant.5.holds c.requires.texts c.requires.holds in
    record { fed = l.invariant.5.holds; ready = record { texts = _; holds = h; long = l.invariant.1 ∙ c.requires.long }; reads = record { within = l.invariant.0; stops = λ left. over-told l.here (sym l.invariant.4 ∙ c.loop-going-test.false) } }
