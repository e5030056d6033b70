-- `laid::rows_laid` meets its contract: its four tests tell of the four parts.
use Rattle.soundness.proofs.Decides.{decides-rows}
use Rattle.soundness.proofs.laid.rows_laid.Goals as goal

pub returns : goal.returns
returns c =
    decides-rows c.args.t.now c.args.n _ _ _ _ c.requires.1 c.rising-numbers.ensures c.older-sources.ensures c.older-vias.ensures
    c.rows_unused-unused.ensures
