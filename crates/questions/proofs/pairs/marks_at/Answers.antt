-- A source word names a slot, so it is within the marks.
use Prim.Native.Nat.{ℕ}
use mathlib.Core.Path.{ap}
use native.Mathlib.Omega.{arith}
use lib.ListN.{get_or}
use Rattle.questions.proofs.pairs.marks_at.Goals as goal

pub returns : goal.returns
returns c = λ low. ap (λ (x : ℕ). get_or c.args.marks.now x 0) (omega (arith, c.min.ensures, low))
