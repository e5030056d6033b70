-- `directories::has_node` meets its contract: by the word of the node; no node out of range is given.
use native.Mathlib.Omega.{arith}
use Rattle.joining.proofs.HeldForms.{node-told, node-beyond}
use Rattle.joining.proofs.directories.has_node.Goals as goal

pub returns-then-n-gt-LAST_NODE : goal.returns-then-n-gt-LAST_NODE
returns-then-n-gt-LAST_NODE c = let a = c.args in λ fs h. node-beyond a.words.now fs h a.n (omega arith)

pub returns : goal.returns
returns c = let a = c.args in λ fs h. node-told a.words.now fs h a.n (omega arith)
