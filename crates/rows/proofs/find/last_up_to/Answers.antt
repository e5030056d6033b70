use Rattle.std.proofs.Common.{ℕ, ◌+◌, ◌/◌, ◌≤◌, arith}
use Rattle.rows.proofs.Searches.{steps-start, steps-turn, steps-end, step-le}
use Rattle.rows.proofs.find.last_up_to.Goals as goal

pub loop-width-init : goal.loop-width-init
loop-width-init c =
    (c.requires, omega arith, (λ front. steps-start c.args.column.now c.args.n))

pub loop-width-preserved : goal.loop-width-preserved
loop-width-preserved c =
    let l = c.loop-width in
    let column = c.args.column.now in
    let n : ℕ = c.args.n in
    let half : ℕ = l.width / 2 in
    let twice : half + half ≤ l.width = omega arith in
    let near = step-le column n l.at half in (
      omega (arith, c.loop-width-test.true),
      rw c.step-at.ensures (omega (arith, near.1, l.invariant.1)),
      (λ front. rw c.step-at.ensures (steps-turn column n front l.at l.width half twice (l.invariant.2 front))),
    )

pub returns : goal.returns
returns c =
    let l = c.loop-width in
    let one : l.width ≤ 1 = omega (arith, c.loop-width-test.false) in
    record { within = omega (arith, l.invariant.0, l.invariant.1); last = (λ front. steps-end c.args.column.now c.args.n l.at l.width one (l.invariant.2 front)) }
