-- `asking::kernel_mark_pairs` meets its contract: where the length fits, the pass over all rows; else nothing changes.
use native.Mathlib.Omega.{arith}
use mathlib.Core.Path.{refl}
use Rattle.test_exports.proofs.asking.kernel_mark_pairs.Goals as goal

pub returns-then-t-ne-TABLES : goal.returns-then-t-ne-TABLES
returns-then-t-ne-TABLES c = record { marked = (λ fits. absurd (c.if-t-ne-TABLES.true fits)); other = (λ not. refl) }

pub returns : goal.returns
returns c =
    let counted = c.rows_in-n.ensures.counted in record { marked = (λ fits st n so rep low. c.mark_pairs.ensures st n so rep (omega (arith, counted, low))); other = (λ not. absurd (not c.if-t-ne-TABLES.false)) }
