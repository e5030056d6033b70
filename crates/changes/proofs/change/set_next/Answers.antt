-- A store in the last word. Assumes nothing.
use lib.ListN.{length-set}
use Rattle.rows.specs.Limits.{row_slots, request_slots}
use Rattle.rows.specs.Layout.{row_columns, request_columns, requests_at, next_at}
use Rattle.changes.proofs.Changes.{next-set}
use Rattle.changes.proofs.change.set_next.Goals as goal

pub shape_of-t : goal.shape_of-t
shape_of-t c = simp length-set

pub returns : goal.returns
unfolding row_slots request_slots row_columns request_columns requests_at next_at
returns c = record { represents = (λ st l. next-set c.args.n st c.args.t.now l); long = simp length-set c.requires }
