-- Made by tools/computes: to unfold `computes` is to unfold every definition of this crate.

unfoldable pub computes : Unit {0}
unfolding Rattle.feed.specs.Feeding.begun Rattle.feed.specs.Feeding.silent Rattle.feed.specs.Feeding.followed Rattle.feed.specs.Feeding.goes_on Rattle.feed.specs.Feeding.undecided Rattle.feed.specs.Feeding.stage_after Rattle.feed.specs.Feeding.opened Rattle.feed.specs.Feeding.opening_line Rattle.feed.specs.Feeding.call_line Rattle.feed.specs.Feeding.line_fed Rattle.feed.specs.Feeding.byte_fed Rattle.feed.specs.Feeding.fed Rattle.feed.specs.Feeding.parts_fed Rattle.feed.specs.Feeding.unsaid Rattle.feed.specs.Feeding.finished Rattle.feed.specs.Feeding.ended_on Rattle.feed.specs.Feeding.printed_on Rattle.feed.specs.Prints.most_text
computes = tt
