-- `record_clauses::process_placed` meets its contract: the row gone through is looked up by its number.
use native.Mathlib.Omega.{arith}
use Rattle.rows.specs.Layout.{row_slot}
use Rattle.rows.proofs.KeySlots.{found_at, found_nothing, at-below}
use Rattle.soundness.proofs.RecordClauses.{placed-prime, placed-nowhere, placed_at}
use Rattle.soundness.proofs.record_clauses.process_placed.Goals as goal

pub returns-then-x-eq0 : goal.returns-then-x-eq0
returns-then-x-eq0 c =
    λ st rep e. placed-prime st.rows c.args.q c.args.x c.if-x-eq0.true

pub returns-in_default : goal.returns-in_default
returns-in_default c =
    let a = c.args in
    λ st rep e.
    placed-nowhere st a.q a.x c.if-x-eq0.false
    (found_nothing (row_slot st.rows a.x.through) (c.row_among.ensures.found st rep e) c.in_default.is)

pub row_at-r-requires : goal.row_at-r-requires
row_at-r-requires c =
    let f = c.row_among in
    (c.requires.0, omega (arith, at-below c.args.n f.result _ f.ensures.within c.in-Some.is))

pub returns : goal.returns
returns c =
    λ st rep e.
    rw (c.clist-home.ensures c.requires.2)
    (placed_at st c.args.q c.args.x c.if-x-eq0.false rep _ c.row_at-r.result
    (found_at (row_slot st.rows c.args.x.through) _ (c.row_among.ensures.found st rep e) c.in-Some.is) c.row_at-r.ensures)
