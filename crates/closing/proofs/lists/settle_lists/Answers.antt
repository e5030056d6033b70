use borrow.Author.Rules.{rules}
use native.Mathlib.Omega.{arith}
use Rattle.changes.specs.vocabulary.Bits.{marks_in}
use Rattle.closing.proofs.ListsPass.{done-start, done-turn, done_end, closes_at}
use Rattle.closing.proofs.lists.settle_lists.Goals as goal

pub loop-j-init : goal.loop-j-init
loop-j-init c = (search rules, search rules, (λ st g f sd rep count long gone closes. done-start g f st c.args.t.now (marks_in c.args.removed.now) rep gone))

pub loop-j-preserved : goal.loop-j-preserved
loop-j-preserved c =
    let a = c.args in
    let called = c.settle_request in
    let l = c.loop-j in (
      search rules,
      called.ensures.long,
      (λ st g f sd rep count long gone closes.
          done-turn g f st l.j l.t called.new.t (marks_in l.out) (marks_in called.new.out) (l.invariant.2 st g f sd rep count long gone closes)
          (λ new v old here. called.ensures.settled st g f new v old sd count here (closes_at g f st a.closed.now closes new v old l.j here))),
    )

pub returns : goal.returns
returns c =
    let l = c.loop-j in record {
      settled = (λ st g f sd rep count long gone closes.
          done_end g f st l.j l.t (marks_in l.out) (omega (arith, c.loop-j-test.false, l.invariant.0)) (l.invariant.2 st g f sd rep count long gone closes));
      long = l.invariant.1;
    }
