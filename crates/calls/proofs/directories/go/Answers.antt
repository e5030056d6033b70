-- `directories::go`: home, no such row, no subdirectory, or through the row.
use native.Mathlib.Omega.{arith}
use mathlib.Core.Path.{sym, ◌∙◌}
use Rattle.rows.specs.Codes.{in_clist}
use Rattle.rows.proofs.Slots.{at-below, row-words}
use Rattle.calls.specs.declared.Call.TheVariants.{Go}
use Rattle.calls.specs.Calls.{refusals}
use Rattle.calls.proofs.LookedUp.{found_in}
use Rattle.calls.proofs.Judging.{by-number, not-in-clist, refused-agrees, accepted-agrees}
use Rattle.calls.proofs.Refusing.{held, not-held, go-home-allowed, go-seven, go-eight, go-allowed}
use Rattle.calls.proofs.Effected.{went-home, went-through}
use Rattle.calls.proofs.directories.go.Goals as goal

pub returns-then-e-eq0 : goal.returns-then-e-eq0
unfolding refusals
returns-then-e-eq0 c =
    let home = c.go_home in
    let a = c.args in record {
      performs = (λ st sd rep same listed.
          accepted-agrees st (Go a.p a.e) (go-home-allowed st a.p a.e c.if-e-eq0.true)
          (went-home st a.p a.e _ rep c.if-e-eq0.true (home.ensures.home st same)));
      long = home.ensures.long;
    }

pub returns-in_default : goal.returns-in_default
unfolding refusals
returns-in_default c =
    let found = c.held_by in
    let a = c.args in record {
      performs = (λ st sd rep same listed.
          let away = not-in-clist st a.p a.e found.result (found.ensures.found st (rep, c.count_rows-n.ensures.counted st rep) c.requires.2.1) c.in_default.is in
          by-number c.into.ensures (refused-agrees st (Go a.p a.e) rep same 7 (go-seven st a.p a.e c.if-e-eq0.false (not-held st a.p a.e away)) (λ z. absurd (omega arith))));
      long = c.requires.1;
    }

pub overflow_add-i : goal.overflow_add-i
overflow_add-i c =
    let found = c.held_by in
    let count = c.count_rows-n in
    record { fits = omega (arith, count.ensures.within, at-below count.result found.result c.in-Some.i found.ensures.within c.in-Some.is) }

pub offset_bounds-t-i : goal.offset_bounds-t-i
offset_bounds-t-i c =
    let found = c.held_by in
    let count = c.count_rows-n in
    record { fits = omega (arith, count.ensures.within, at-below count.result found.result c.in-Some.i found.ensures.within c.in-Some.is) }

pub bounds-t-i : goal.bounds-t-i
bounds-t-i c =
    let found = c.held_by in
    let count = c.count_rows-n in
    omega (arith, c.requires.0, count.ensures.within, at-below count.result found.result c.in-Some.i found.ensures.within c.in-Some.is)

pub returns-then-t-i-ne-A_SUBDIRECTORY : goal.returns-then-t-i-ne-A_SUBDIRECTORY
unfolding refusals
returns-then-t-i-ne-A_SUBDIRECTORY c =
    let found = c.held_by in
    let count = c.count_rows-n in
    let a = c.args in record {
      performs = (λ st sd rep same listed.
          let (at, here) = found_in st (in_clist a.p) a.e found.result c.in-Some.i (found.ensures.found st (rep, count.ensures.counted st rep) c.requires.2.1) c.in-Some.is in
          by-number c.into-then-t-i-ne-A_SUBDIRECTORY.ensures (refused-agrees st (Go a.p a.e) rep same 8
          (go-eight st a.p a.e c.if-e-eq0.false (held st a.p a.e here) (λ k. c.if-t-i-ne-A_SUBDIRECTORY.true ((row-words rep a.e c.in-Some.i at).kind ∙ k))) (λ z. absurd (omega arith))));
      long = c.requires.1;
    }

pub go_through-requires : goal.go_through-requires
go_through-requires c =
    let found = c.held_by in
    let count = c.count_rows-n in
    let pre = c.requires in
    (pre.0, omega (arith, count.ensures.within, at-below count.result found.result c.in-Some.i found.ensures.within c.in-Some.is), pre.1, pre.2)

pub returns : goal.returns
unfolding refusals
returns c =
    let there = c.go_through in
    let found = c.held_by in
    let count = c.count_rows-n in
    let a = c.args in record {
      performs = (λ st sd rep same listed.
          let (at, here) = found_in st (in_clist a.p) a.e found.result c.in-Some.i (found.ensures.found st (rep, count.ensures.counted st rep) c.requires.2.1) c.in-Some.is in
          accepted-agrees st (Go a.p a.e)
          (go-allowed st a.p a.e c.if-e-eq0.false (held st a.p a.e here) (sym (row-words rep a.e c.in-Some.i at).kind ∙ c.if-t-i-ne-A_SUBDIRECTORY.false))
          (went-through st a.p a.e _ rep c.if-e-eq0.false (there.ensures.there st rep at same)));
      long = there.ensures.long;
    }
