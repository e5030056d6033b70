-- The slots that are marked and those that are left are all.
use Rattle.changes.specs.vocabulary.Bits.{marks_in}
use Rattle.closing.proofs.MarksRows.{removed-counted}
use Rattle.closing.proofs.marks.count_removed.Goals as goal

pub returns : goal.returns
returns c =
    let counted = c.count in
    record { counted = counted.ensures; less = removed-counted c.args.n counted.result (marks_in c.args.removed.now) c.requires counted.ensures }
