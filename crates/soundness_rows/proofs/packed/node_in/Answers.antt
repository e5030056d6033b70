-- `packed::node_in` meets its contract: the bit of the word.
use Rattle.soundness_rows.proofs.packed.node_in.Goals as goal

pub returns : goal.returns
returns c = λ y p. p.node
