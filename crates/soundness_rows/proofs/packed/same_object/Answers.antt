-- `packed::same_object` meets its contract: kind, operation and object as one number.
use Rattle.soundness_rows.proofs.PackedRows.{object-same}
use Rattle.soundness_rows.proofs.packed.same_object.Goals as goal

pub returns : goal.returns
returns c = λ y z p q e. object-same c.args.a c.args.b y z p q e
