-- Eight stores, one in each column, at the first free slot; that there are four items is known of the argument's type. Assumes nothing.
use borrow.Author.Rules.{rules}
use native.Mathlib.Omega.{arith}
use mathlib.Core.Path.{sym, ◌∙◌}
use lib.ListN.{length-map, length-set}
use Rattle.rows.specs.Limits.{row_slots, request_slots}
use Rattle.rows.specs.Layout.{row_columns, request_columns, requests_at}
use Rattle.changes.proofs.Put.{stored}
use Rattle.changes.proofs.Changes.{request-added}
use Rattle.changes.proofs.change.append_request.Goals as goal

pub bounds-t-count-2 : goal.bounds-t-count-2
bounds-t-count-2 c = simp length-set (omega arith)

pub bounds-t-count-3 : goal.bounds-t-count-3
bounds-t-count-3 c = simp length-set (omega arith)

pub bounds-t-count-4 : goal.bounds-t-count-4
bounds-t-count-4 c = simp length-set (omega arith)

pub bounds-t-count-5 : goal.bounds-t-count-5
bounds-t-count-5 c = simp length-set (omega arith)

pub bounds-t-count-6 : goal.bounds-t-count-6
bounds-t-count-6 c = simp length-set (omega arith)

pub bounds-t-count-7 : goal.bounds-t-count-7
bounds-t-count-7 c = simp length-set (omega arith)

pub bounds-t-count-8 : goal.bounds-t-count-8
bounds-t-count-8 c = simp length-set (omega arith)

pub shape_of-t : goal.shape_of-t
shape_of-t c = simp length-set

pub returns : goal.returns
unfolding row_slots request_slots row_columns request_columns requests_at stored
returns c =
    let v = c.args.v in
    let four = sym (length-map v.items (λ x. x)) ∙ (let long : _ = search rules in long) in record { represents = (λ st l e top. request-added v four st c.args.t.now c.args.count l e c.requires.1 top); long = simp length-set c.requires.0 }
