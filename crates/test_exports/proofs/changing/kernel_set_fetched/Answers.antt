-- `changing::kernel_set_fetched` meets its contract: where the length and the slot fit, the change's own; else nothing changes.
use mathlib.Core.Path.{refl}
use Rattle.rows.proofs.Slots.{represented-length}
use Rattle.test_exports.proofs.Answers.{no-request-slot}
use Rattle.test_exports.proofs.changing.kernel_set_fetched.Goals as goal

pub returns-then-t-ne-TABLES : goal.returns-then-t-ne-TABLES
returns-then-t-ne-TABLES c = record { represents = (λ st q rep e. absurd (c.if-t-ne-TABLES.true (represented-length rep))); other = (λ not. refl) }

pub returns-then-j-ge-REQUESTS : goal.returns-then-j-ge-REQUESTS
returns-then-j-ge-REQUESTS c = record { represents = (λ st q rep e. no-request-slot st q rep c.args.j e c.if-j-ge-REQUESTS.true); other = (λ not. refl) }

pub returns : goal.returns
returns c =
    record { represents = c.set_fetched.ensures.represents; other = (λ not. absurd (not (c.if-t-ne-TABLES.false, c.if-j-ge-REQUESTS.false))) }
