-- A word as it is, or all its bits turned round.
use mathlib.Core.Bool.{Bool}
use mathlib.Core.Path.{ap, sym, ◌∙◌}
use lib.Pow.{ones_sub-lt}
use Rattle.changes.specs.vocabulary.Bits.{bit, same_as}
use Rattle.changes.proofs.BitLaws.{bit_not}
use Rattle.changes.proofs.runs.word_of.Goals as goal

pub returns-then-marked : goal.returns-then-marked
unfolding same_as
returns-then-marked c = let a = c.args in record { within = c.ranges.w.fits; bits = (λ k h. sym (ap (λ (m : Bool). same_as m (bit a.w k)) c.if-marked.true)) }

pub returns : goal.returns
unfolding same_as
returns c =
    let a = c.args in
    record { within = ones_sub-lt 64 a.w; bits = (λ k h. bit_not 64 a.w k c.ranges.w.fits h ∙ sym (ap (λ (m : Bool). same_as m (bit a.w k)) c.if-marked.false)) }
