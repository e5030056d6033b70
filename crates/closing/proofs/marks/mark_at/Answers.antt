-- A word that names no slot, or one before all marks, has no mark.
use Prim.Native.Nat.{ℕ, ◌-◌}
use mathlib.Core.Bool.{false}
use mathlib.Core.Path.{ap, sym, ◌∙◌}
use native.Mathlib.Nat.{mod-eq_of_lt}
use native.Mathlib.Omega.{arith}
use lib.ListN.{get_or}
use Rattle.changes.specs.vocabulary.Bits.{marks_in}
use Rattle.closing.proofs.MarksRows.{word_none, word-slot}
use Rattle.closing.proofs.marks.mark_at.Goals as goal

pub returns-then-at-first : goal.returns-then-at-first
returns-then-at-first c = λ h. sym (word_none (marks_in c.args.marks.now) c.args.first c.args.s c.requires (omega (arith, c.if-at-first.true)))

pub returns : goal.returns
returns c =
    let ms = marks_in c.args.marks.now in
    λ h.
    c.is_set.ensures
    ∙ ap (λ (i : ℕ). get_or ms i false) (mod-eq_of_lt {n = c.args.s - 1} {m = 1024} (omega (arith, h, c.if-at-first.false)))
    ∙ sym (word-slot ms c.args.s (omega (arith, c.if-at-first.false)))
