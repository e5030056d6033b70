-- `asking::kernel_on_loan` meets its contract: words of another length hold no state.
use mathlib.Core.Path.{refl}
use Rattle.rows.proofs.Slots.{represented-length}
use Rattle.test_exports.proofs.asking.kernel_on_loan.Goals as goal

pub returns-then-t-ne-TABLES : goal.returns-then-t-ne-TABLES
returns-then-t-ne-TABLES c = record { listed = (λ st rep pos. absurd (c.if-t-ne-TABLES.true (represented-length rep))); other = (λ not. refl) }

pub returns : goal.returns
returns c = record { listed = c.on_loan.ensures; other = (λ not. absurd (not c.if-t-ne-TABLES.false)) }
