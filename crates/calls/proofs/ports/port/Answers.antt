-- `ports::port`: no such row, or what the row gives.
use native.Mathlib.Omega.{arith}
use Rattle.rows.specs.Codes.{in_clist}
use Rattle.rows.proofs.Slots.{at-below}
use Rattle.calls.specs.Calls.{refusals}
use Rattle.calls.proofs.LookedUp.{found_in}
use Rattle.calls.specs.declared.Call.TheVariants.{Port}
use Rattle.calls.proofs.Judging.{by-number, unwrapped, not-in-clist, refused-agrees, records-stay}
use Rattle.calls.proofs.Refusing.{not-held, port-seven}
use Rattle.calls.proofs.Effected.{port-records}
use Rattle.calls.proofs.ports.port.Goals as goal

pub returns-in_default : goal.returns-in_default
unfolding refusals
returns-in_default c =
    let found = c.held_by in
    let a = c.args in record {
      performs = (λ ps st sd rep same listed.
          let away = not-in-clist st a.p a.e found.result (found.ensures.found st (rep, c.count_rows-n.ensures.counted st rep) c.requires.1.1) c.in_default.is in
          by-number c.into.ensures (refused-agrees st (Port a.p a.e) rep same 7 (port-seven st a.p a.e (not-held st a.p a.e away)) (λ z. absurd (omega arith))));
      long = c.requires.0;
    }

pub port_row-requires : goal.port_row-requires
port_row-requires c =
    let found = c.held_by in
    let count = c.count_rows-n in
    (c.requires.0, count.ensures.within, at-below count.result found.result c.in-Some.i found.ensures.within c.in-Some.is, c.requires.1)

pub returns : goal.returns
returns c =
    let row = c.port_row in
    let found = c.held_by in
    let count = c.count_rows-n in
    let a = c.args in record {
      performs = (λ ps st sd rep same listed.
          let counted = count.ensures.counted st rep in
          let (at, here) = found_in st (in_clist a.p) a.e found.result c.in-Some.i (found.ensures.found st (rep, counted) c.requires.1.1) c.in-Some.is in
          rw (unwrapped row.result _ c.unwrap_or_else.ensures) (records-stay st (Port a.p a.e) same (port-records st a.p a.e) _ (row.ensures.answers st a.e sd (rep, counted) (at, here))));
      long = row.ensures.long;
    }
