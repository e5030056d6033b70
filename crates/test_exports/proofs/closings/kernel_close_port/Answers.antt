-- `closings::kernel_close_port` meets its contract: where both lengths fit, the closing's own; else nothing changes.
use mathlib.Core.Path.{refl, sym, ap, ◌∙◌}
use Rattle.rows.specs.Layout.{records_of}
use Rattle.rows.proofs.LayoutRequests.{records-words}
use Rattle.rows.proofs.Slots.{represented-length}
use Rattle.test_exports.proofs.closings.kernel_close_port.Goals as goal

pub returns-then-t-ne-TABLES : goal.returns-then-t-ne-TABLES
returns-then-t-ne-TABLES c = record { done = (λ long st sd rep same. absurd (c.if-t-ne-TABLES.true (represented-length rep))); other = (λ not. (refl, refl)) }

pub returns-then-p-ne-RECORDS : goal.returns-then-p-ne-RECORDS
returns-then-p-ne-RECORDS c = record { done = (λ long st sd rep same. absurd (c.if-p-ne-RECORDS.true long)); other = (λ not. (refl, refl)) }

pub returns : goal.returns
returns c =
    let closed = c.close_port in record {
      done = (λ long st sd rep same.
          let after = closed.ensures.closed st sd rep same in
          (after.0, sym (records-words 64 _ closed.ensures.long.1) ∙ ap records_of after.1));
      other = (λ not. absurd (not (c.if-t-ne-TABLES.false, c.if-p-ne-RECORDS.false)));
    }
