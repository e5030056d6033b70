-- `chain::first_chain` meets its contract: the chain of the source is written, one row less deep, then the row.
use Rattle.std.proofs.Common.{◌-◌, arith}
use Rattle.questions.proofs.Chains.{writes-none, writes-row}
use Rattle.questions.proofs.chain.+first_chain.Goals as goal

pub returns-then-s-eq0-clause-written : goal.returns-then-s-eq0-clause-written
returns-then-s-eq0-clause-written t c = let a = c.args in writes-none a.t.now a.s a.d a.chain.now (λ x y z. omega arith)

pub returns-then-s-gt-LAST_WORD-clause-written : goal.returns-then-s-gt-LAST_WORD-clause-written
returns-then-s-gt-LAST_WORD-clause-written t c = let a = c.args in writes-none a.t.now a.s a.d a.chain.now (λ x y z. omega arith)

pub returns-then-d-eq0-clause-written : goal.returns-then-d-eq0-clause-written
returns-then-d-eq0-clause-written t c = let a = c.args in writes-none a.t.now a.s a.d a.chain.now (λ x y z. omega arith)

pub returns-clause-written : goal.returns-clause-written
returns-clause-written t c =
    let a = c.args in
    let n = c.first_chain-n.result in
    writes-row a.t.now a.s a.d a.chain.now (a.s - 1) (omega arith) _ n (omega (arith, c.first_chain-n.ensures.few)) c.first_chain-n.ensures.written
