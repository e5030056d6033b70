use Rattle.std.proofs.Common.{arith}
use Rattle.rows.specs.Layout.{records_in}
use Rattle.rows.proofs.ProcessRecords.{same-all, length-in}
use Rattle.rows.proofs.records.load.Goals as goal

pub returns : goal.returns
returns c =
    let l = c.loop-i in
    same-all 64 l.ps (records_in c.args.p.now) l.invariant.0 (length-in 64 c.args.p.now c.requires) (λ k h. l.invariant.1 k (omega arith))
