-- `ports::close`: no such row, refused, or the port closes.
use native.Mathlib.Omega.{arith}
use Rattle.rows.specs.Codes.{in_clist}
use Rattle.rows.proofs.Slots.{at-below}
use Rattle.calls.proofs.LookedUp.{found_in}
use Rattle.calls.proofs.Refusing.{not-held, seven}
use Rattle.calls.specs.Rules.{not_held}
use Rattle.calls.specs.declared.Call.TheVariants.{Close}
use Rattle.calls.specs.Calls.{refusals, refusals_close}
use Rattle.calls.proofs.Judging.{unwrapped, by-number, not-in-clist, refused-agrees}
use Rattle.calls.proofs.ports.close.Goals as goal

pub returns-in_default : goal.returns-in_default
unfolding refusals refusals_close
returns-in_default c =
    let found = c.held_by in
    let a = c.args in record {
      performs = (λ st sd rep same listed.
          let away = not-in-clist st a.p a.c found.result (found.ensures.found st (rep, c.count_rows-n.ensures.counted st rep) c.requires.2.1) c.in_default.is in
          by-number c.into.ensures (refused-agrees st (Close a.p a.c) rep same 7 (seven (not_held st a.p a.c) _ (not-held st a.p a.c away)) (λ z. absurd (omega arith))));
      long = (c.requires.0, c.requires.1);
    }

pub close_held-requires : goal.close_held-requires
close_held-requires c =
    let found = c.held_by in
    let count = c.count_rows-n in
    (c.requires.0, c.requires.1, omega (arith, count.ensures.within, at-below count.result found.result c.in-Some.i found.ensures.within c.in-Some.is))

pub returns : goal.returns
returns c =
    let row = c.close_held in
    let found = c.held_by in
    let count = c.count_rows-n in
    let a = c.args in record {
      performs = (λ st sd rep same listed.
          let here = found_in st (in_clist a.p) a.c found.result c.in-Some.i (found.ensures.found st (rep, count.ensures.counted st rep) c.requires.2.1) c.in-Some.is in
          rw (unwrapped row.result _ c.unwrap_or_else.ensures) (row.ensures.closes st a.p sd rep same here));
      long = row.ensures.long;
    }
