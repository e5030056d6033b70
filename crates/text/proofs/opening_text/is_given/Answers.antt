-- `opening_text::is_given` meets its contract.
use mathlib.Core.Bool.{false}
use mathlib.Core.Path.{sym}
use lib.ListN.{get_or-eq_default}
use Rattle.text.proofs.opening_text.is_given.Goals as goal

pub returns : goal.returns
returns c =
    let a = c.args in
    sym (get_or-eq_default a.run.now false c.if-i-run.false)
