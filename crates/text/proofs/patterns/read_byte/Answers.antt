-- `patterns::read_byte` meets its contract: no byte, the byte, another byte.
use native.Mathlib.Omega.{arith}
use mathlib.Core.Path.{sym, ◌∙◌}
use Rattle.text.specs.Patterns.{passed}
use Rattle.text.proofs.PatternLaws.{byte-same, byte-other, byte-end}
use Rattle.text.proofs.patterns.read_byte.Goals as goal
use Rattle.text.proofs.patterns.read_byte.Goals.{else-i-s, then-i-s+else-s-i}

pub returns-then-s-i : goal.returns-then-s-i
unfolding passed
returns-then-s-i c =
    let a = c.args in
    sym (byte-same a.s.now a.r a.p (omega arith) c.if-s-i.true)

pub returns : goal.returns
returns c =
    let a = c.args in
    c.no_form.ensures ∙ sym (elim c.if-i-s.branch [ then-i-s+else-s-i w ↦ byte-other a.s.now a.r a.p (omega arith) w.if-s-i.false | else-i-s w ↦ byte-end a.s.now a.r a.p (omega arith) ])
