use borrow.Author.Rules.{rules}
use mathlib.Core.Path.{refl, ap, sym, ◌∙◌}
use native.Mathlib.Omega.{arith}
use Rattle.rows.specs.Tables.{no_process}
use Rattle.rows.specs.Sound.{placed_from}
use Rattle.rows.specs.Layout.{records_in}
use Rattle.rows.proofs.ProcessRecords.{length-in}
use Rattle.soundness.proofs.RecordClauses.{placed-more, taken-all}
use Rattle.soundness.proofs.record_clauses.processes_placed.Goals as goal

pub loop-i-init : goal.loop-i-init
unfolding placed_from
loop-i-init c = (search rules, (λ st rep e. refl))

pub loop-i-preserved : goal.loop-i-preserved
loop-i-preserved c =
    let p = c.args.p.now in
    let i = c.loop-i.i in (
      search rules,
      (λ st rep e.
          rw (c.loop-i.invariant.1 st rep e, c.process_placed-placed.ensures st rep e, c.record_at-x.ensures)
          (sym (placed-more st.rows no_process (records_in p) i (omega (arith, length-in 64 p c.requires.1))))),
    )

pub returns : goal.returns
returns c =
    let p = c.args.p.now in
    λ st rep e.
    c.loop-i.invariant.1 st rep e ∙ ap (placed_from st.rows 1) (taken-all (records_in p) c.loop-i.i 64 (length-in 64 p c.requires.1) c.loop-i-test.false)
