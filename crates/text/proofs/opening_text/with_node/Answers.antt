-- `opening_text::with_node` meets its contract.
use native.Mathlib.Omega.{arith}
use Rattle.text.proofs.OpeningLaws.{gives-node}
use Rattle.text.proofs.opening_text.with_node.Goals as goal

pub returns : goal.returns
returns c =
    λ fs es k. gives-node c.args.g fs k c.args.n es (omega arith)
