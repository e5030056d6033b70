-- A store in column place. Assumes nothing.
use lib.ListN.{length-set}
use Rattle.rows.specs.Limits.{row_slots}
use Rattle.changes.proofs.Changes.{place_set}
use Rattle.changes.proofs.change.set_place.Goals as goal

pub shape_of-t : goal.shape_of-t
shape_of-t c = simp length-set

pub returns : goal.returns
unfolding row_slots
returns c = record { represents = (λ st n l e. place_set n c.args.place st c.args.t.now c.args.i l e); long = simp length-set c.requires.0 }
