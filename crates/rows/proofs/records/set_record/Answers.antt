-- `records::set_record`: three stores, one after the other.
use Rattle.std.proofs.Common.{arith, length-set}
use Rattle.rows.proofs.ProcessRecords.{records-written}
use Rattle.rows.proofs.records.set_record.Goals as goal

pub bounds-p-at-2 : goal.bounds-p-at-2
bounds-p-at-2 c = simp length-set (omega arith)

pub bounds-p-at-3 : goal.bounds-p-at-3
bounds-p-at-3 c = simp length-set (omega arith)

pub returns : goal.returns
returns c =
    let s = c in
    record { written = records-written s.args.p.now s.args.i s.args.x s.requires.0 s.requires.1; long = simp length-set s.requires.0 }
