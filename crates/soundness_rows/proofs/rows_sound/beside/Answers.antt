-- `rows_sound::beside` meets its contract: the kinds of both, and the port.
use Rattle.soundness_rows.proofs.RowsSound.{beside_at}
use Rattle.soundness_rows.proofs.rows_sound.beside.Goals as goal

pub returns : goal.returns
returns c =
    λ t st i rep da db.
    rw c.of_one_port-port.ensures (beside_at rep i c.args.a c.args.b da db)
