use borrow.Author.Rules.{rules}
use Prim.Native.Nat.{◌<◌, ◌+◌}
use mathlib.Core.Bool.{Bool, true}
use mathlib.Core.List.{List}
use mathlib.Core.Path.{sym, subst, ◌∙◌}
use native.Mathlib.Omega.{arith}
use Rattle.rows.specs.vocabulary.Sizes.{ROWS}
use Rattle.changes.specs.vocabulary.Bits.{marks_in}
use Rattle.closing.specs.vocabulary.Seeds.{seed_of}
use Rattle.closing.proofs.MarksPass.{MarkedTo, marked_start, marked_turn, marked-left}
use Rattle.closing.proofs.MarksRows.{none-set, seed-at, seeds-end}
use Rattle.closing.proofs.marks.mark_seeds.Goals as goal
use Rattle.closing.proofs.marks.mark_seeds.Goals.{else-is_seed, then-is_seed}

pub loop-i-init : goal.loop-i-init
loop-i-init c = (search rules, (λ st rep count. marked_start (seed_of c.args.s) ROWS st.rows _ none-set))

pub loop-i-preserved : goal.loop-i-preserved
loop-i-preserved c =
    let seed = c.is_seed in
    let l = c.loop-i in
    let room : l.i < ROWS = omega (arith, c.loop-i-test.true, c.requires.1) in
    (elim c.if-is_seed.branch [
      | then-is_seed w ↦ rw w.marks-is (
        search rules,
        (λ st rep count.
            subst (λ (ms : List Bool). MarkedTo (seed_of c.args.s) ROWS st.rows (l.i + 1) ms) (sym w.set.ensures)
            (marked_turn (seed_of c.args.s) ROWS st.rows l.i (marks_in l.marks) true room (l.invariant.1 st rep count)
            (λ new r old cut long m. sym w.if-is_seed.true ∙ seed.ensures ∙ seed-at rep c.args.s l.i new r old cut long))),
      )
      | else-is_seed w ↦ rw w.marks-is (
        search rules,
        (λ st rep count.
            marked-left (seed_of c.args.s) ROWS st.rows l.i (marks_in l.marks) room (l.invariant.1 st rep count)
            (λ new r old cut long. sym (seed.ensures ∙ seed-at rep c.args.s l.i new r old cut long) ∙ w.if-is_seed.false)),
      )
    ])

pub returns : goal.returns
returns c =
    let l = c.loop-i in
    λ st rep count. seeds-end rep c.args.s l.i (marks_in l.marks) (omega (arith, c.loop-i-test.false, l.invariant.0)) (l.invariant.1 st rep count)
