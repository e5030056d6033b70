-- `opening_text::with_process` meets its contract.
use native.Mathlib.Omega.{arith}
use Rattle.text.proofs.OpeningLaws.{gives-process}
use Rattle.text.proofs.opening_text.with_process.Goals as goal

pub returns : goal.returns
returns c =
    λ fs k. gives-process c.args.g fs k c.args.p c.args.n (omega arith)
