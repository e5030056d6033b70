use borrow.Author.Rules.{rules}
use mathlib.Core.Path.{refl, ap, sym, ◌∙◌}
use native.Mathlib.Omega.{arith}
use Rattle.rows.specs.Lists.{all}
use Rattle.rows.specs.Tables.{no_process}
use Rattle.rows.specs.Sound.{record_in_range}
use Rattle.rows.specs.Layout.{records_in}
use Rattle.rows.proofs.ProcessRecords.{length-in}
use Rattle.soundness.proofs.RecordClauses.{all_more, taken-all}
use Rattle.soundness.proofs.record_clauses.records_sound.Goals as goal

pub loop-i-init : goal.loop-i-init
unfolding all
loop-i-init c = (search rules, refl)

pub loop-i-preserved : goal.loop-i-preserved
loop-i-preserved c =
    let p = c.args.p.now in
    let i = c.loop-i.i in (
      search rules,
      rw (c.loop-i.invariant.1, c.record_in_range-in_range.ensures, c.record_at-x.ensures)
          (sym (all_more record_in_range no_process (records_in p) i (omega (arith, length-in 64 p c.requires)))),
    )

pub returns : goal.returns
returns c =
    let p = c.args.p.now in
    c.loop-i.invariant.1 ∙ ap (all record_in_range) (taken-all (records_in p) c.loop-i.i 64 (length-in 64 p c.requires) c.loop-i-test.false)
