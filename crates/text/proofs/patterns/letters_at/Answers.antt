use native.Mathlib.Omega.{arith}
use mathlib.Core.Path.{refl, sym, ◌∙◌}
use Rattle.text.specs.Patterns.{is_letter, spelt, letters}
use Rattle.text.proofs.PatternLaws.{run-stops, letter-low, run_more, run_ends}
use Rattle.text.proofs.patterns.letters_at.Goals as goal

pub loop-i-init : goal.loop-i-init
unfolding letters
loop-i-init c = (omega arith, refl)

pub returns-then-not-is_letter : goal.returns-then-not-is_letter
returns-then-not-is_letter c =
    let stops = sym c.is_letter.ensures ∙ c.if-not-is_letter.true in
    sym (run-stops is_letter spelt c.loop-i.v c.loop-i.i c.args.s.now (omega arith) stops) ∙ c.loop-i.invariant.1

pub spell-v-requires : goal.spell-v-requires
spell-v-requires c = (omega arith, letter-low _ (sym c.is_letter.ensures ∙ c.if-not-is_letter.false))

pub loop-i-preserved : goal.loop-i-preserved
loop-i-preserved c =
    let letter = sym c.is_letter.ensures ∙ c.if-not-is_letter.false in
    let more = run_more is_letter spelt c.loop-i.v c.loop-i.i c.args.s.now (omega arith) letter in
    (omega arith, rw c.spell-v.ensures.worth (sym more ∙ c.loop-i.invariant.1))

pub returns : goal.returns
returns c =
    sym (run_ends is_letter spelt c.loop-i.v c.loop-i.i c.args.s.now (omega arith)) ∙ c.loop-i.invariant.1
