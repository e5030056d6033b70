-- `laid::requests_laid` meets its contract: its two tests tell of the two parts.
use Rattle.soundness.proofs.Decides.{decides-requests}
use Rattle.soundness.proofs.laid.requests_laid.Goals as goal

pub returns : goal.returns
returns c =
    decides-requests c.args.t.now c.args.m _ _ c.requires.1 c.rising-numbers.ensures c.requests_unused-unused.ensures
