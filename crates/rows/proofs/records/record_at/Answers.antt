-- `records::record_at`: three words, one after the other.
use Rattle.std.proofs.Common.{sym}
use Rattle.rows.proofs.ProcessRecords.{record-at}
use Rattle.rows.proofs.records.record_at.Goals as goal

pub returns : goal.returns
returns c =
    sym (record-at 64 c.args.p.now c.requires.0 c.args.i c.requires.1)
