-- `patterns::read_word` meets its contract: one law for each arm.
use native.Mathlib.Omega.{arith}
use mathlib.Core.Path.{◌∙◌, sym}
use Rattle.text.specs.Patterns.{worded}
use Rattle.text.proofs.PatternLaws.{word_end, word-run, word_low, word-high}
use Rattle.text.proofs.patterns.read_word.Goals as goal
use Rattle.text.proofs.patterns.read_word.Goals.{in_default-via-else-b-lt97+else-b-lt123, in_default-via-then-b-lt97}

pub returns-then-s-i : goal.returns-then-s-i
returns-then-s-i c =
    let a = c.args in
    c.no_form.ensures ∙ sym (word_end a.s.now a.r (omega arith))

pub returns-in-97-to-122 : goal.returns-in-97-to-122
unfolding worded
returns-in-97-to-122 c =
    let a = c.args in
    rw c.letters_at-w.ensures (sym (word-run a.s.now a.r (omega arith) (omega arith)))

pub returns-in_default : goal.returns-in_default
returns-in_default c =
    let a = c.args in
    c.no_form-in_default.ensures ∙ sym ((elim c.in_default.branch [ in_default-via-then-b-lt97 w ↦ word_low a.s.now a.r (omega arith) | in_default-via-else-b-lt97+else-b-lt123 w ↦ word-high a.s.now a.r (omega arith) ]))
