-- `patterns::read_number` meets its contract: one law for each arm.
use native.Mathlib.Omega.{arith}
use mathlib.Core.Path.{◌∙◌, sym}
use Rattle.text.proofs.PatternLaws.{number-end, number-zero, number-run, number-low, number-high}
use Rattle.text.proofs.patterns.read_number.Goals as goal
use Rattle.text.proofs.patterns.read_number.Goals.{in_default-via-else-b-lt48+else-b-lt58, in_default-via-then-b-lt48}

pub returns-then-s-i : goal.returns-then-s-i
returns-then-s-i c =
    let a = c.args in
    c.no_form.ensures ∙ sym (number-end a.s.now a.r (omega arith))

pub returns-in-48 : goal.returns-in-48
returns-in-48 c =
    let a = c.args in
    c.with_number.ensures ∙ sym (number-zero a.s.now a.r c.in-48.is)

pub returns-in-49-to-57 : goal.returns-in-49-to-57
returns-in-49-to-57 c =
    let a = c.args in
    c.with_number-in-49-to-57.ensures ∙ rw c.digits_at.ensures.worth (sym (number-run a.s.now a.r (omega arith) (omega arith)))

pub returns-in_default : goal.returns-in_default
returns-in_default c =
    let a = c.args in
    c.no_form-in_default.ensures ∙ sym ((elim c.in_default.branch [ in_default-via-then-b-lt48 w ↦ number-low a.s.now a.r (omega arith) | in_default-via-else-b-lt48+else-b-lt58 w ↦ number-high a.s.now a.r (omega arith) ]))
