use Rattle.std.proofs.Common.{◌+◌, List, sym, ap, ◌∙◌, subst, arith, rules}
use Rattle.rows.specs.declared.Process.{Process}
use Rattle.rows.specs.Tables.{no_process}
use Rattle.rows.specs.Layout.{records_in, records_of}
use Rattle.rows.proofs.LayoutRequests.{records-words}
use Rattle.rows.proofs.ProcessRecords.{SameTo, same_more, same-all, length-in}
use Rattle.rows.proofs.records.store.Goals as goal

pub loop-i-preserved : goal.loop-i-preserved
unfolding no_process
loop-i-preserved c =
    let written = c.set_record in
    let l = c.loop-i in
    let ps = c.args.ps in (
      written.ensures.long,
      subst (λ (qs : List Process). SameTo qs ps (l.i + 1)) (sym written.ensures.written)
          (same_more (records_in l.p) ps l.i (omega (arith, length-in 64 l.p l.invariant.0, c.loop-i-test.true)) l.invariant.1),
    )

pub returns : goal.returns
returns c =
    let l = c.loop-i in
    let all = same-all 64 (records_in l.p) c.args.ps (length-in 64 l.p l.invariant.0) (search rules) (λ k h. l.invariant.1 k (omega arith)) in
    sym (records-words 64 l.p l.invariant.0) ∙ ap records_of all
