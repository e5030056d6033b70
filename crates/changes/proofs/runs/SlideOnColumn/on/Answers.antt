-- What std's `copy_within` says of the words that stay, move and are written over.
use Rattle.std.proofs.Common.{◌≡◌, ◌+◌, ◌-◌, refl, ◌∙◌, arith, append_assoc}
use Rattle.changes.specs.vocabulary.Marks.{slid}
use Rattle.changes.proofs.runs.SlideOnColumn.on.Goals as goal

pub returns : goal.returns
unfolding slid
returns c =
    let run = c.args.self.now in
    let e : run.from + run.len - run.from ≡ run.len = omega arith in
    c.copy_within.ensures.after ∙ rw (e, append_assoc) refl
