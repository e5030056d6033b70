-- `merging::merge_process` meets its contract: the first text gives one, or the second.
use borrow.Author.Tests.{lt-ltb, le-ltb}
use native.Mathlib.Omega.{arith}
use Rattle.joining.proofs.MergedNodes.{prime-first, prime-second}
use Rattle.joining.proofs.merging.merge_process.Goals as goal

pub returns-then-n-gt0 : goal.returns-then-n-gt0
returns-then-n-gt0 c = let a = c.args in λ fs gs ha hb. prime-first a.first.now fs gs ha a.p _ (c.prime_of-n.ensures fs ha) (lt-ltb 0 _ c.if-n-gt0.true)

pub returns : goal.returns
returns c = let a = c.args in λ fs gs ha hb. prime-second a.first.now fs gs ha a.p _ (c.prime_of-n.ensures fs ha) (le-ltb 0 c.prime_of-n.result (omega arith)) _ (c.prime_of.ensures gs hb)
