-- The number less 1 is past every process where it wraps, and else the place of the record. Assumes nothing.
use Rattle.std.proofs.Common.{◌+◌, ◌%◌, arith}
use Rattle.rows.proofs.ProcessRecords.{listed-wraps}
use Rattle.rows.proofs.records.listed.Goals as goal

pub returns : goal.returns
returns c =
    listed-wraps c.args.p.now c.args.n ((c.args.n + 4294967295) % 4294967296) c.requires (omega arith) (omega (arith, c.ranges.n.fits))
