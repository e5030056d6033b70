-- `reading::kernel_records` meets its contract: the records stored are those read, where both lengths fit.
use mathlib.Core.Path.{refl, ap, ◌∙◌}
use Rattle.rows.specs.Layout.{records_of}
use Rattle.test_exports.proofs.reading.kernel_records.Goals as goal

pub returns-then-from-ne-RECORDS : goal.returns-then-from-ne-RECORDS
returns-then-from-ne-RECORDS c = record { stored = (λ fits. absurd (c.if-from-ne-RECORDS.true fits.0)); other = (λ not. refl) }

pub returns-then-to-ne-RECORDS : goal.returns-then-to-ne-RECORDS
returns-then-to-ne-RECORDS c = record { stored = (λ fits. absurd (c.if-to-ne-RECORDS.true fits.1)); other = (λ not. refl) }

pub returns : goal.returns
returns c =
    record { stored = (λ fits. c.store.ensures ∙ ap records_of c.load-ps.ensures); other = (λ not. absurd (not (c.if-from-ne-RECORDS.false, c.if-to-ne-RECORDS.false))) }
