-- `lookups::depth_at`: no row has depth 0, a row the depth in its slot.
use mathlib.Core.Path.{◌∙◌}
use Rattle.calls.proofs.LookedUp.{depth-absent, depth-word}
use Rattle.calls.proofs.lookups.depth_at.Goals as goal

pub returns-then-s-eq0 : goal.returns-then-s-eq0
returns-then-s-eq0 c = λ st e rep s. depth-absent c.args.t.now st e (s ∙ c.if-s-eq0.true)

pub returns : goal.returns
returns c =
    let a = c.args in
    λ st e rep s. depth-word a.t.now st e a.s rep s c.if-s-eq0.false
