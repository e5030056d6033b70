-- `records::store`: each turn writes one record; that there are 64 is known of the argument's type.
use Rattle.std.proofs.Common.{◌≡◌, length}
use Rattle.rows.specs.Layout.{records_in}
use Rattle.rows.proofs.ProcessRecords.{SameTo}
use Rattle.rows.proofs.records.store.Given as goal

abbrev pub invariant-loop-i : goal.invariant-loop-i
invariant-loop-i l = (length l.p ≡ 192) × SameTo (records_in l.p) l.fn.ps l.i
