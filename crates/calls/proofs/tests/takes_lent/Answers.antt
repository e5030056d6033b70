-- `tests::takes_lent`: no subdirectory, or a subdirectory and the other row decides.
use mathlib.Core.Path.{sym, ◌∙◌}
use Rattle.rows.proofs.Slots.{row-words}
use Rattle.calls.proofs.LookedUp.{no-directory, directory}
use Rattle.calls.proofs.tests.takes_lent.Goals as goal

pub returns-then-t-i-ne-A_SUBDIRECTORY : goal.returns-then-t-i-ne-A_SUBDIRECTORY
returns-then-t-i-ne-A_SUBDIRECTORY c =
    let a = c.args in
    λ st s x sd rep at via. no-directory st s _ (λ k. c.if-t-i-ne-A_SUBDIRECTORY.true ((row-words rep s a.i at).kind ∙ k))

pub returns : goal.returns
returns c =
    let a = c.args in
    λ st s x sd rep at via. c.lent_word.ensures st x sd rep via ∙ directory st s _ (sym (row-words rep s a.i at).kind ∙ c.if-t-i-ne-A_SUBDIRECTORY.false)
