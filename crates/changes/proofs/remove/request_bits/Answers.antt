use borrow.Author.Rules.{rules}
use Prim.Native.Nat.{◌<◌, ◌+◌}
use mathlib.Core.Path.{◌≡◌, ap, subst, sym, ◌∙◌}
use mathlib.Core.Bool.{Bool, true}
use mathlib.Core.List.{List}
use native.Mathlib.Omega.{arith}
use lib.Dec.{lit<}
use lib.ListN.{length, length-set}
use Rattle.changes.specs.vocabulary.Bits.{marks_in}
use Rattle.changes.proofs.BitLaws.{Copied, copied-set, copied-left, none-marked, length-marks}
use Rattle.changes.proofs.remove.request_bits.Goals as goal
use Rattle.changes.proofs.remove.request_bits.Goals.{else-marks-j, then-marks-j}

pub loop-j-init : goal.loop-j-init
loop-j-init c = (search rules, length-marks 64 _, record { same = λ i h. absurd (omega arith); clear = λ i h. none-marked 64 (lit< tt) 16 i })

pub loop-j-preserved : goal.loop-j-preserved
loop-j-preserved c =
    let l = c.loop-j in
    let marks = c.args.marks.now in
    let room : l.j < length (marks_in l.packed) = omega (arith, l.invariant.1, c.loop-j-test.true, c.requires) in
    (elim c.if-marks-j.branch [
      | then-marks-j w ↦ rw w.packed-is (
        search rules,
        ap length w.set.ensures ∙ length-set (marks_in l.packed) l.j true ∙ l.invariant.1,
        subst (λ (ps : List Bool). Copied marks ps (l.j + 1)) (sym w.set.ensures) (copied-set marks (marks_in l.packed) l.j room w.if-marks-j.true l.invariant.2),
      )
      | else-marks-j w ↦ rw w.packed-is (search rules, l.invariant.1, copied-left marks (marks_in l.packed) l.j w.if-marks-j.false l.invariant.2)
    ])

pub returns : goal.returns
returns c =
    let l = c.loop-j in
    let e : l.j ≡ c.args.count = omega (arith, l.invariant.0, c.loop-j-test.false) in
    λ i h. l.invariant.2.same i (rw e h)
