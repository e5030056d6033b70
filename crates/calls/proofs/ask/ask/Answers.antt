-- `ask::ask`: no such row, or what the items give.
use native.Mathlib.Omega.{arith}
use mathlib.Core.Path.{sym, ◌∙◌}
use Rattle.rows.specs.Codes.{in_clist}
use Rattle.rows.proofs.Bools.{or_l}
use Rattle.rows.proofs.Slots.{at-below, represented-next}
use Rattle.calls.specs.Rules.{not_held}
use Rattle.calls.specs.Loans.{items_of}
use Rattle.calls.specs.Calls.{refusals}
use Rattle.calls.specs.declared.Call.TheVariants.{Ask}
use Rattle.calls.proofs.LookedUp.{found_in}
use Rattle.calls.proofs.Judging.{unwrapped, by-number, not-in-clist, refused-agrees, records-stay}
use Rattle.calls.proofs.Refusing.{not-held}
use Rattle.calls.proofs.Asked.{ask-seven}
use Rattle.calls.proofs.Effected.{ask-records}
use Rattle.calls.proofs.ask.ask.Goals as goal

pub returns-in_default : goal.returns-in_default
unfolding refusals
returns-in_default c =
    let found = c.held_by in
    let count = c.count_rows-n in
    let a = c.args in record {
      performs = (λ ps st sd rep same listed.
          let away = not-in-clist st a.p a.c found.result (found.ensures.found st (rep, count.ensures.counted st rep) c.requires.1.1) c.in_default.is in
          by-number c.into.ensures (refused-agrees st (Ask a.p a.c a.items) rep same 7
          (ask-seven st a.p a.c (items_of a.items) (or_l (not_held st a.p a.c) _ (not-held st a.p a.c away))) (λ z. absurd (omega arith))));
      long = c.requires.0;
    }

pub ask_items-requires : goal.ask_items-requires
ask_items-requires c =
    let found = c.held_by in
    let count = c.count_rows-n in
    (c.requires.0, count.ensures.within, at-below count.result found.result c.in-Some.i found.ensures.within c.in-Some.is)

pub returns : goal.returns
returns c =
    let done = c.ask_items in
    let next = c.next_of in
    let found = c.held_by in
    let count = c.count_rows-n in
    let a = c.args in record {
      performs = (λ ps st sd rep same listed.
          let counted = count.ensures.counted st rep in
          let here = found_in st (in_clist a.p) a.c found.result c.in-Some.i (found.ensures.found st (rep, counted) c.requires.1.1) c.in-Some.is in
          rw (unwrapped done.result _ c.unwrap_or_else.ensures) (records-stay st (Ask a.p a.c a.items) same (ask-records st a.p a.c a.items) _
          (done.ensures.answers st sd (rep, counted) (here, sym (next.ensures ∙ represented-next rep)) c.requires.1.1)));
      long = done.ensures.long;
    }
