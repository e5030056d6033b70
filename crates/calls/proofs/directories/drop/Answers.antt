-- `directories::drop`: no such row, refused, or the row goes.
use native.Mathlib.Omega.{arith}
use mathlib.Core.Path.{ap, sym}
use Rattle.rows.specs.declared.Process.{Process}
use Rattle.rows.specs.Codes.{in_clist}
use Rattle.rows.specs.Layout.{records_in}
use Rattle.rows.proofs.Slots.{at-below}
use Rattle.calls.specs.declared.Call.TheVariants.{Drop}
use Rattle.calls.specs.Rules.{not_held}
use Rattle.calls.specs.Calls.{refusals, refusals_drop}
use Rattle.calls.proofs.LookedUp.{found_in}
use Rattle.calls.proofs.Added.{at-process}
use Rattle.calls.proofs.Judging.{unwrapped, by-number, not-in-clist, refused-agrees}
use Rattle.calls.proofs.Refusing.{not-held, seven}
use Rattle.calls.proofs.directories.drop.Goals as goal

pub returns-in_default : goal.returns-in_default
unfolding refusals refusals_drop
returns-in_default c =
    let found = c.held_by in
    let pre = c.requires in
    let a = c.args in record {
      performs = (λ st sd rep same listed.
          let away = not-in-clist st a.p a.e found.result (found.ensures.found st (rep, c.count_rows-n.ensures.counted st rep) pre.2.1) c.in_default.is in
          by-number c.into.ensures (refused-agrees st (Drop a.p a.e) rep same 7 (seven (not_held st a.p a.e) _ (not-held st a.p a.e away)) (λ z. absurd (omega arith))));
      long = (pre.0, pre.1);
    }

pub drop_held-requires : goal.drop_held-requires
drop_held-requires c =
    let found = c.held_by in
    let count = c.count_rows-n in
    (c.requires.0, c.requires.1, count.ensures.within, omega (arith, count.ensures.within, at-below count.result found.result c.in-Some.i found.ensures.within c.in-Some.is))

pub returns : goal.returns
returns c =
    let row = c.drop_held in
    let found = c.held_by in
    let count = c.count_rows-n in
    let read = c.record_at-x in
    let pre = c.requires in
    let a = c.args in record {
      performs = (λ st sd rep same listed.
          let counted = count.ensures.counted st rep in
          let here = found_in st (in_clist a.p) a.e found.result c.in-Some.i (found.ensures.found st (rep, counted) pre.2.1) c.in-Some.is in
          let x = ap (λ (y : Process). y.through) (sym (at-process st (records_in a.ps.now) same a.p pre.2.0 read.result read.ensures)) in
          rw (unwrapped row.result _ c.unwrap_or_else.ensures) (row.ensures.drops st a.p sd (rep, counted) same here x));
      long = row.ensures.long;
    }
