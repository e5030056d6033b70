use Rattle.std.proofs.Common.{◌≤◌, get_or}
use Rattle.soundness.specs.vocabulary.Laid.{Older}
use Rattle.soundness.proofs.Decides.{decides_below}
use Rattle.soundness.proofs.laid.older.Goals as goal

pub returns : goal.returns
unfolding Older
returns c =
    let l = c.args.column.now in
    decides_below (λ j. get_or l j 0 ≤ j) _ c.loop-i.i _ c.loop-i.auto.i-end c.loop-i-test.false c.loop-i.invariant
