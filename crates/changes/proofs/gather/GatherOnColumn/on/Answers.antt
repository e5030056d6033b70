use Rattle.std.proofs.Common.{ℕ, ◌+◌, List, get_or, set, ap, sym, ◌∙◌}
use Rattle.changes.proofs.Slide.{gathered-start, gathered-turn}
use Rattle.changes.proofs.gather.GatherOnColumn.on.Goals as goal

pub loop-k-init : goal.loop-k-init
loop-k-init c = sym (gathered-start c.args.column.now c.args.self.now.to c.args.self.now.slots.now)

pub loop-k-preserved : goal.loop-k-preserved
loop-k-preserved c =
    let k : ℕ = c.loop-k.k in
    let to : ℕ = c.args.self.now.to in
    let slots = c.args.self.now.slots.now in
    let ahead = c.requires.1 k c.loop-k-test.true in
    rw c.from.ensures (ap (λ (t : List ℕ). set t (to + k) (get_or t (get_or slots k 0) 0)) c.loop-k.invariant) ∙ gathered-turn c.args.column.now to slots k ahead.0 ahead.1
