-- The word fits its bits, so they are all that it has.
use mathlib.Core.Path.{sym, ap}
use native.Mathlib.Nat.{lt_of_le_of_lt, mod-eq_of_lt}
use lib.Count.{ones, ones-le}
use lib.Dec.{lit<}
use Rattle.changes.proofs.bits.count_bits.Goals as goal

pub overflow_cast-result : goal.overflow_cast-result
overflow_cast-result c = record { fits = lt_of_le_of_lt (ones-le 64 c.args.w c.ranges.w.fits) (lit< tt) }

pub returns : goal.returns
returns c = record { within = ones-le 64 c.args.w c.ranges.w.fits; counted = ap ones (sym (mod-eq_of_lt c.ranges.w.fits)) }
