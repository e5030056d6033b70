-- `opening_lines::line_end` meets its contract: what stands before the first line feed, and the line feed if there is one.
use native.Mathlib.Omega.{arith}
use Prim.Native.Nat.{ℕ, ◌-◌}
use lib.ListN.{drop, length, length-drop}
use lib.Seq.{take_all}
use Rattle.text.proofs.OpeningLaws.{line-fed, line-unfed}
use Rattle.text.proofs.opening_lines.line_end.Goals as goal

pub returns-then-feed-text : goal.returns-then-feed-text
returns-then-feed-text c =
    let at : ℕ = c.args.at in
    let text = c.args.text.now in
    let rest = drop at text in
    let left = length-drop at text in
    let whole = take_all (length text - at) rest (omega (arith, left)) in
    let counted = rw whole at c.before_first.ensures.counted in
    let fed = line-fed rest (omega (arith, counted, left, c.if-feed-text.true)) in
    record { ends = omega (arith, counted, fed); within = omega arith }

pub returns : goal.returns
returns c =
    let at : ℕ = c.args.at in
    let text = c.args.text.now in
    let rest = drop at text in
    let left = length-drop at text in
    let whole = take_all (length text - at) rest (omega (arith, left)) in
    let counted = rw whole at c.before_first.ensures.counted in
    let within = rw whole at c.before_first.ensures.within in
    let unfed = line-unfed rest (omega (arith, counted, left, c.if-feed-text.false)) in
    record { ends = omega (arith, counted, unfed); within = omega (arith, within, left, c.requires) }
