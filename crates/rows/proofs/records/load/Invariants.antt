-- `records::load`: each turn reads one record.
use Rattle.std.proofs.Common.{◌≡◌, length}
use Rattle.rows.specs.Layout.{records_in}
use Rattle.rows.proofs.ProcessRecords.{SameTo}
use Rattle.rows.proofs.records.load.Given as goal

abbrev pub invariant-loop-i : goal.invariant-loop-i
invariant-loop-i l = (length l.ps ≡ 64) × SameTo l.ps (records_in l.p) l.i
