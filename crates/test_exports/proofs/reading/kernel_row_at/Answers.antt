-- `reading::kernel_row_at` meets its contract: the fields of what is read, where length and slot fit.
use native.Mathlib.Omega.{arith}
use mathlib.Core.Path.{refl, ap}
use Rattle.rows.specs.Layout.{words_of_row}
use Rattle.test_exports.proofs.reading.kernel_row_at.Goals as goal

pub returns-then-t-ne-TABLES : goal.returns-then-t-ne-TABLES
returns-then-t-ne-TABLES c = record { read = (λ fits. absurd (c.if-t-ne-TABLES.true fits.0)); other = (λ not. refl) }

pub returns-then-i-ge-ROWS : goal.returns-then-i-ge-ROWS
returns-then-i-ge-ROWS c = record { read = (λ fits. absurd (omega (arith, fits.1, c.if-i-ge-ROWS.true))); other = (λ not. refl) }

pub returns : goal.returns
returns c =
    record { read = (λ fits. ap words_of_row c.row_at-r.ensures); other = (λ not. absurd (not (c.if-t-ne-TABLES.false, c.if-i-ge-ROWS.false))) }
