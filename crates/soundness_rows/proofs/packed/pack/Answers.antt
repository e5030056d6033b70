-- `packed::pack` meets its contract: the definition, part by part.
use Rattle.std.proofs.Common.{◌≡◌, Bool, true, false, refl}
use mathlib.Core.Bool.{cond}
use mir.Val.{bool_byte}
use Rattle.soundness_rows.specs.vocabulary.Packed.{packed}
use Rattle.soundness_rows.proofs.packed.pack.Goals as goal

one-if : (b : Bool) → bool_byte b ≡ cond b 1 0
one-if true = refl
one-if false = refl

pub returns : goal.returns
unfolding packed
returns c = rw (c.from-place.ensures, c.is_node-node.ensures, one-if) refl
