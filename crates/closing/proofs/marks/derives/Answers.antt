-- The second source is looked at only where the first is not marked.
use mathlib.Core.Bool.{Bool, ◌||◌}
use mathlib.Core.Path.{ap, sym, ◌∙◌}
use Rattle.changes.specs.vocabulary.Bits.{marks_in}
use Rattle.closing.specs.vocabulary.Marks.{word_mark, either_mark}
use Rattle.closing.proofs.marks.derives.Goals as goal

pub returns-then-mark_at : goal.returns-then-mark_at
unfolding either_mark
returns-then-mark_at c =
    let ms = marks_in c.args.marks.now in
    λ h k. c.if-mark_at.true ∙ sym (ap (λ (b : Bool). b || word_mark ms c.args.v) (sym (c.mark_at.ensures h) ∙ c.if-mark_at.true))

pub returns-else-mark_at : goal.returns-else-mark_at
unfolding either_mark
returns-else-mark_at c =
    let ms = marks_in c.args.marks.now in
    λ h k. c.mark_at-else-mark_at.ensures k ∙ sym (ap (λ (b : Bool). b || word_mark ms c.args.v) (sym (c.mark_at.ensures h) ∙ c.if-mark_at.false))
