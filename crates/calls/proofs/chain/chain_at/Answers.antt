-- `chain::chain_at` meets its contract: the chain is written over zeros, and read off four by four.
use Rattle.calls.proofs.Chained.{chained-at}
use Rattle.calls.proofs.chain.chain_at.Goals as goal

pub returns : goal.returns
returns c =
    let a = c.args in
    chained-at a.t.now a.i c.first_chain.result _ c.first_chain.ensures.written _ _ _ c.four_from.ensures c.four_from-2.ensures c.four_from-3.ensures
