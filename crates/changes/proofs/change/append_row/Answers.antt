-- Ten stores, one in each column, at the first free slot. Assumes nothing.
use native.Mathlib.Omega.{arith}
use lib.ListN.{length-set}
use Rattle.rows.specs.Limits.{row_slots}
use Rattle.rows.specs.Layout.{row_columns}
use Rattle.changes.proofs.Put.{stored}
use Rattle.changes.proofs.Changes.{row-added}
use Rattle.changes.proofs.change.append_row.Goals as goal

pub bounds-t-count-2 : goal.bounds-t-count-2
bounds-t-count-2 c = simp length-set (omega arith)

pub bounds-t-count-3 : goal.bounds-t-count-3
bounds-t-count-3 c = simp length-set (omega arith)

pub bounds-t-count-4 : goal.bounds-t-count-4
bounds-t-count-4 c = simp length-set (omega arith)

pub bounds-t-count-5 : goal.bounds-t-count-5
bounds-t-count-5 c = simp length-set (omega arith)

pub bounds-t-count-6 : goal.bounds-t-count-6
bounds-t-count-6 c = simp length-set (omega arith)

pub bounds-t-count-7 : goal.bounds-t-count-7
bounds-t-count-7 c = simp length-set (omega arith)

pub bounds-t-count-8 : goal.bounds-t-count-8
bounds-t-count-8 c = simp length-set (omega arith)

pub bounds-t-count-9 : goal.bounds-t-count-9
bounds-t-count-9 c = simp length-set (omega arith)

pub bounds-t-count-10 : goal.bounds-t-count-10
bounds-t-count-10 c = simp length-set (omega arith)

pub shape_of-t : goal.shape_of-t
shape_of-t c = simp length-set

pub returns : goal.returns
unfolding row_slots row_columns stored
returns c =
    let a = c.args in
    record { represents = (λ st l e top. row-added a.w st a.t.now a.count l e c.requires.1 c.requires.2 c.requires.3 top); long = simp length-set c.requires.0 }
