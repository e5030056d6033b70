-- `changing::kernel_set_place` meets its contract: where the length and the slot fit, the change's own; else nothing changes.
use mathlib.Core.Path.{refl}
use Rattle.rows.proofs.Slots.{represented-length}
use Rattle.test_exports.proofs.Answers.{no_slot}
use Rattle.test_exports.proofs.changing.kernel_set_place.Goals as goal

pub returns-then-t-ne-TABLES : goal.returns-then-t-ne-TABLES
returns-then-t-ne-TABLES c = record { represents = (λ st n rep e. absurd (c.if-t-ne-TABLES.true (represented-length rep))); other = (λ not. refl) }

pub returns-then-i-ge-ROWS : goal.returns-then-i-ge-ROWS
returns-then-i-ge-ROWS c = record { represents = (λ st n rep e. no_slot st n rep c.args.i e c.if-i-ge-ROWS.true); other = (λ not. refl) }

pub returns : goal.returns
returns c =
    record { represents = c.set_place.ensures.represents; other = (λ not. absurd (not (c.if-t-ne-TABLES.false, c.if-i-ge-ROWS.false))) }
