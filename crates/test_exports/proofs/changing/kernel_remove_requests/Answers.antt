-- `changing::kernel_remove_requests` meets its contract: where the length and the slot fit, the change's own; else nothing changes.
use mathlib.Core.Path.{refl}
use Rattle.rows.proofs.Slots.{represented-length}
use Rattle.test_exports.proofs.changing.kernel_remove_requests.Goals as goal

pub returns-then-t-ne-TABLES : goal.returns-then-t-ne-TABLES
returns-then-t-ne-TABLES c = record { represents = (λ st f rep m. absurd (c.if-t-ne-TABLES.true (represented-length rep))); other = (λ not. refl) }

pub returns : goal.returns
returns c =
    record { represents = c.remove_requests.ensures; other = (λ not. absurd (not c.if-t-ne-TABLES.false)) }
