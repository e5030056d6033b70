-- `lookups::source_word`: the word of a row that stands is below its own slot, so it is never past the count.
use borrow.Author.Rules.{rules}
use Prim.Native.Nat.{◌+◌}
use native.Mathlib.Omega.{arith}
use Rattle.calls.proofs.LookedUp.{source-read}
use Rattle.calls.proofs.lookups.source_word.Goals as goal

pub overflow_cast-s : goal.overflow_cast-s
overflow_cast-s c = record { fits = omega (arith, c.shared_slice_known-1.given (6144 + c.args.i)) }

pub returns-then-n-s : goal.returns-then-n-s
returns-then-n-s c =
    record { within = search rules; word = (λ st e h at. absurd (omega (arith, c.requires.1, c.if-n-s.true, (source-read h.0 e c.args.i at).1))) }

pub returns : goal.returns
returns c =
    record { within = search rules; word = (λ st e h at. (source-read h.0 e c.args.i at).0) }
