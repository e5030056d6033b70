-- `directories::hold`: no such row in the active node, or what the row gives.
use native.Mathlib.Omega.{arith}
use mathlib.Core.Path.{ap, sym, ◌∙◌}
use Rattle.rows.specs.declared.Process.{Process}
use Rattle.rows.specs.Codes.{is_node}
use Rattle.rows.specs.Layout.{row_slot, records_in}
use Rattle.rows.proofs.Bools.{pos-some}
use Rattle.rows.proofs.Slots.{at-below}
use Rattle.tables.proofs.Sound.{sound-open}
use Rattle.tables.proofs.SoundFacts.{active-node}
use Rattle.calls.specs.declared.Call.TheVariants.{Hold}
use Rattle.calls.specs.Calls.{refusals, caller_of}
use Rattle.calls.proofs.LookedUp.{found_in}
use Rattle.calls.proofs.Added.{at-process, node-some, in-active}
use Rattle.calls.proofs.Judging.{unwrapped, by-number, not_in, refused-agrees, records-stay}
use Rattle.calls.proofs.Refusing.{hold-seven}
use Rattle.calls.proofs.Effected.{hold-records}
use Rattle.calls.proofs.directories.hold.Goals as goal

pub returns-in_default : goal.returns-in_default
unfolding refusals caller_of
returns-in_default c =
    let found = c.row_in in
    let read = c.record_at-x in
    let pre = c.requires in
    let a = c.args in record {
      performs = (λ st sd rep same listed.
          let x = at-process st (records_in a.ps.now) same a.p pre.2.0 read.result read.ensures in
          let node = node-some _ (ap (λ (y : Process). is_node y.active) x ∙ active-node st (sound-open st sd).placed a.p (listed (pos-some a.p pre.2.0))) in
          let away = not_in st _ a.s node found.result (found.ensures.found st (rep, c.count_rows-n.ensures.counted st rep)) c.in_default.is in
          by-number c.into.ensures (refused-agrees st (Hold a.p a.s) rep same 7 (hold-seven st a.p a.s (in-active st a.p a.s _ (ap (λ (y : Process). y.active) x) _ away))
          (λ z. absurd (omega arith))));
      long = pre.0;
    }

pub hold_row-requires : goal.hold_row-requires
hold_row-requires c =
    let found = c.row_in in
    let count = c.count_rows-n in
    (c.requires.0, count.ensures.within, at-below count.result found.result c.in-Some.i found.ensures.within c.in-Some.is, c.row_word-via.ensures.within)

pub returns : goal.returns
unfolding caller_of
returns c =
    let row = c.hold_row in
    let via = c.row_word-via in
    let found = c.row_in in
    let count = c.count_rows-n in
    let read = c.record_at-x in
    let pre = c.requires in
    let a = c.args in record {
      performs = (λ st sd rep same listed.
          let counted = count.ensures.counted st rep in
          let x = at-process st (records_in a.ps.now) same a.p pre.2.0 read.result read.ensures in
          let (at, here) = found_in st _ a.s found.result c.in-Some.i (found.ensures.found st (rep, counted)) c.in-Some.is in
          let active = in-active st a.p a.s _ (ap (λ (y : Process). y.active) x) _ here in
          let word = ap (λ (y : Process). row_slot st.rows y.through) (sym x) ∙ sym (via.ensures.word st (rep, counted)) in
          rw (unwrapped row.result _ c.unwrap_or_else.ensures) (records-stay st (Hold a.p a.s) same (hold-records st a.p a.s) _
          (row.ensures.answers st a.s sd (rep, counted) (at, active, word) (listed (pos-some a.p pre.2.0)))));
      long = row.ensures.long;
    }
