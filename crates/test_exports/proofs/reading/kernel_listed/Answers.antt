-- `reading::kernel_listed` meets its contract: the answer of `listed`, where the length fits.
use mathlib.Core.Path.{refl}
use Rattle.test_exports.proofs.reading.kernel_listed.Goals as goal

pub returns-then-p-ne-RECORDS : goal.returns-then-p-ne-RECORDS
returns-then-p-ne-RECORDS c = record { listed = (λ fits. absurd (c.if-p-ne-RECORDS.true fits)); other = (λ not. refl) }

pub returns : goal.returns
returns c = record { listed = (λ fits. c.listed.ensures); other = (λ not. absurd (not c.if-p-ne-RECORDS.false)) }
