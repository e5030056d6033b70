-- `changing::kernel_remove_rows` meets its contract: where the length and the slot fit, the change's own; else nothing changes.
use mathlib.Core.Path.{refl}
use Rattle.rows.proofs.Slots.{represented-length}
use Rattle.test_exports.proofs.Answers.{no-count}
use Rattle.test_exports.proofs.changing.kernel_remove_rows.Goals as goal

pub returns-then-t-ne-TABLES : goal.returns-then-t-ne-TABLES
returns-then-t-ne-TABLES c = record { represents = (λ st g rep e m cl. absurd (c.if-t-ne-TABLES.true (represented-length rep))); other = (λ not. refl) }

pub returns-then-count-gt-ROWS : goal.returns-then-count-gt-ROWS
returns-then-count-gt-ROWS c = record { represents = (λ st g rep e m cl. no-count st rep c.args.count e c.if-count-gt-ROWS.true); other = (λ not. refl) }

pub returns : goal.returns
returns c =
    record { represents = c.remove_rows.ensures; other = (λ not. absurd (not (c.if-t-ne-TABLES.false, c.if-count-gt-ROWS.false))) }
