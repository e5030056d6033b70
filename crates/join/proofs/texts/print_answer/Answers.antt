-- `texts::print_answer`: where nothing is refused, both directories hold accepted texts.
use Rattle.std.proofs.Common.{arith, sym, ◌∙◌}
use Rattle.joining.proofs.PrintedTexts.{ended-accepted}
use Rattle.join.proofs.texts.print_answer.Goals as goal

pub write_answer-written-requires : goal.write_answer-written-requires
write_answer-written-requires g c =
    let k = c.requires.0 in
    let is = c.finish-v.ensures k.progress k.holds in
    let same = c.loop-from.invariant in
    let room = c.requires.1 in
    (λ none. ended-accepted _ _ _ k.progress k.holds (sym none ∙ is), omega (arith, same, room))
