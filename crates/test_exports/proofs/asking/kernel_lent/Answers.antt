-- `asking::kernel_lent` meets its contract: words of another length hold no state, and a state has no row in a slot from 1,024 on.
use mathlib.Core.Path.{refl}
use Rattle.rows.proofs.Slots.{represented-length}
use Rattle.test_exports.proofs.Answers.{no_slot}
use Rattle.test_exports.proofs.asking.kernel_lent.Goals as goal

pub returns-then-t-ne-TABLES : goal.returns-then-t-ne-TABLES
returns-then-t-ne-TABLES c = record { lent = (λ st n so rep e. absurd (c.if-t-ne-TABLES.true (represented-length rep))); other = (λ not. refl) }

pub returns-then-e-ge-ROWS : goal.returns-then-e-ge-ROWS
returns-then-e-ge-ROWS c = record { lent = (λ st n so rep e. no_slot st n rep c.args.e e c.if-e-ge-ROWS.true); other = (λ not. refl) }

pub returns : goal.returns
returns c = record { lent = c.lent.ensures; other = (λ not. absurd (not (c.if-t-ne-TABLES.false, c.if-e-ge-ROWS.false))) }
