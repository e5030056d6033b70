use Prim.Native.Nat.{ℕ}
use native.Mathlib.Omega.{arith}
use mathlib.Core.Path.{◌≡◌, sym, ◌∙◌}
use Rattle.text.proofs.OpeningLaws.{line-some}
use Rattle.text.proofs.WrittenForms.{forming-starts, forming-few, forming-fits, forming-goes-on, forming-missing, forming-stops, forming-ends, missing-told, line-at, no-line-at, written-told}
use Rattle.text.proofs.opening_words.write_forms.Goals as goal

pub loop-at-init : goal.loop-at-init
loop-at-init c =
    let a = c.args in
    (omega arith, omega arith, c.requires.sizes.0, c.requires.sizes.1, forming-starts a.text.now a.t.now a.p.now a.g c.requires.passed c.requires.empty)

pub write_line-named-requires : goal.write_line-named-requires
write_line-named-requires c =
    let e = c.line_end-e in
    let l = c.loop-at in
    record { sizes = (l.invariant.2, l.invariant.3); fits = forming-fits l.invariant.4 e.result (omega arith) e.ensures.ends }

pub loop-at-smaller : goal.loop-at-smaller
loop-at-smaller c =
    let more = line-some c.args.text.now c.loop-at.at (omega arith) in
    omega arith

pub loop-at-preserved : goal.loop-at-preserved
loop-at-preserved c =
    let k = c.loop-at.invariant.4 in
    let more = line-some c.args.text.now c.loop-at.at (omega arith) in
    let named = sym c.in-Listed.is ∙ c.write_line-named.ensures.named k.forms k.gives in
    let listed = c.write_line-named.ensures.written (λ z. let y : ◌≡◌ {A = ℕ} 0 1 = cc in omega arith) in
    (omega arith, omega arith, c.write_line-named.ensures.long.0, c.write_line-named.ensures.long.1, forming-goes-on k c.line_end-e.result (omega arith) c.line_end-e.ensures.ends _ _ _ named listed)

pub returns-in-Missing : goal.returns-in-Missing
returns-in-Missing c =
    let k = c.loop-at.invariant.4 in
    let named = sym c.in-Missing.is ∙ c.write_line-named.ensures.named k.forms k.gives in
    let missing = forming-missing k c.line_end-e.result (omega arith) c.line_end-e.ensures.ends named in
    let n = k.number in
    record { missing = missing-told k _ (line-at _ c.loop-at.n missing (omega arith)); written = λ z. absurd (let y : ◌≡◌ {A = ℕ} 0 1 = cc in omega arith); long = c.write_line-named.ensures.long }

pub overflow_add-rows : goal.overflow_add-rows
overflow_add-rows c =
    let l = c.loop-at in
    let few = forming-few l.invariant.4 in
    omega arith

pub overflow_cast-rows : goal.overflow_cast-rows
overflow_cast-rows c =
    let l = c.loop-at in
    let few = forming-few l.invariant.4 in
    omega arith

pub set_next-requires : goal.set_next-requires
set_next-requires c = c.write_line-named.ensures.long.0

pub returns-in-Ended : goal.returns-in-Ended
returns-in-Ended c =
    let sets = c.set_next in
    let k = c.loop-at.invariant.4 in
    let named = sym c.in-Ended.is ∙ c.write_line-named.ensures.named k.forms k.gives in
    let ended = c.write_line-named.ensures.written (λ z. let y : ◌≡◌ {A = ℕ} 0 1 = cc in omega arith) in
    let stops = forming-stops k c.line_end-e.result (omega arith) c.line_end-e.ensures.ends _ _ _ named ended sets.ensures.represents in
    record { missing = missing-told k _ (no-line-at _ stops.0); written = λ z. written-told k stops.1; long = (sets.ensures.long, c.write_line-named.ensures.long.1) }

pub returns : goal.returns
returns c = absurd (forming-ends c.loop-at.invariant.4 (omega arith))
