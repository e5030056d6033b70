-- `read::row_at` meets its contract: each column's word at the slot.
use Rattle.std.proofs.Common.{refl}
use Rattle.rows.specs.Limits.{row_slots}
use Rattle.rows.specs.Layout.{row_field, raw_row}
use Rattle.rows.proofs.read.row_at.Goals as goal

pub returns : goal.returns
unfolding raw_row row_field row_slots
returns c = refl
