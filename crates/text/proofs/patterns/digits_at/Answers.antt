use native.Mathlib.Omega.{arith}
use mathlib.Core.Path.{refl, sym, ◌∙◌}
use Rattle.text.specs.Patterns.{is_digit, grown, digits}
use Rattle.text.proofs.PatternLaws.{run-stops, digit_low, run_more, run_ends}
use Rattle.text.proofs.patterns.digits_at.Goals as goal

pub loop-i-init : goal.loop-i-init
unfolding digits
loop-i-init c = (omega arith, refl)

pub returns-then-not-is_digit : goal.returns-then-not-is_digit
returns-then-not-is_digit c =
    let stops = sym c.is_digit.ensures ∙ c.if-not-is_digit.true in
    record { worth = sym (run-stops is_digit grown c.loop-i.v c.loop-i.i c.args.s.now (omega arith) stops) ∙ c.loop-i.invariant.1; most = omega arith }

pub grow-v-requires : goal.grow-v-requires
grow-v-requires c = (omega arith, digit_low _ (sym c.is_digit.ensures ∙ c.if-not-is_digit.false))

pub loop-i-preserved : goal.loop-i-preserved
loop-i-preserved c =
    let digit = sym c.is_digit.ensures ∙ c.if-not-is_digit.false in
    let more = run_more is_digit grown c.loop-i.v c.loop-i.i c.args.s.now (omega arith) digit in
    (omega arith, rw c.grow-v.ensures.worth (sym more ∙ c.loop-i.invariant.1))

pub returns : goal.returns
returns c =
    record { worth = sym (run_ends is_digit grown c.loop-i.v c.loop-i.i c.args.s.now (omega arith)) ∙ c.loop-i.invariant.1; most = omega arith }
