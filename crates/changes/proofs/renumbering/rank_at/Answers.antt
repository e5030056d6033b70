-- A slot past the last one is taken for it.
use Prim.Native.Nat.{ℕ}
use native.Mathlib.Omega.{arith}
use mathlib.Core.Path.{ap, ◌∙◌}
use lib.ListN.{get_or}
use Rattle.changes.proofs.renumbering.rank_at.Goals as goal

pub bounds-to-min : goal.bounds-to-min
bounds-to-min c = omega (arith, c.min.ensures, c.requires)

pub returns : goal.returns
returns c = c.from.ensures ∙ ap (λ (x : ℕ). get_or c.args.to.now x 0) c.min.ensures
