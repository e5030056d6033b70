-- Whichever way was chosen, the words that are left stand in front; what follows them is cleared.
use native.Mathlib.Omega.{arith}
use mathlib.Core.Path.{◌≡◌, ◌∙◌}
use lib.ListN.{length}
use Rattle.changes.specs.vocabulary.Bits.{marks_in}
use Rattle.changes.specs.vocabulary.Marks.{Moved}
use Rattle.changes.proofs.Lefts.{lefts-le}
use Rattle.changes.proofs.Parts.{moved-end}
use Rattle.changes.proofs.compact.compact_columns.Goals as goal
use Rattle.changes.proofs.compact.compact_columns.Goals.{else-scattered, then-scattered}

pub scattered-requires : goal.scattered-requires
scattered-requires c =
    (c.requires.sizes.1, omega (arith, c.requires.kept, lefts-le (marks_in c.args.marks.now) c.args.count), c.requires.sizes.3)

pub clear_columns-requires : goal.clear_columns-requires
clear_columns-requires c =
    let j = c.if-scattered in
    let long : length j.part ≡ length c.args.part.now = (elim j.branch [ then-scattered w ↦ rw w.part-is w.move_by_words.auto.part | else-scattered w ↦ rw w.part-is w.move_by_runs.auto.part ]) in
    (long ∙ c.requires.sizes.0, omega (arith, c.requires.kept, lefts-le (marks_in c.args.marks.now) c.args.count), c.requires.sizes.2)

pub shape_of-part : goal.shape_of-part
shape_of-part c =
    let j = c.if-scattered in
    c.clear_columns.auto.part ∙ (elim j.branch [ then-scattered w ↦ rw w.part-is w.move_by_words.auto.part | else-scattered w ↦ rw w.part-is w.move_by_runs.auto.part ])

pub returns : goal.returns
returns c =
    let called = c.clear_columns in
    let j = c.if-scattered in
    let ms = marks_in c.args.marks.now in
    let part = c.args.part.now in
    let moved : Moved ms c.args.size c.args.columns part j.part c.args.count c.args.kept =
    (elim j.branch [ then-scattered w ↦ rw w.part-is w.move_by_words.ensures | else-scattered w ↦ rw w.part-is w.move_by_runs.ensures ]) in
    called.ensures ∙ moved-end ms c.args.count c.args.size c.args.columns part j.part c.args.kept moved
