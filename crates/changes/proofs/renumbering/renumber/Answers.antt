-- Where no row is left after the first mark, the sources are right as they are.
use native.Mathlib.Nat.{le_refl}
use native.Mathlib.Omega.{arith}
use Rattle.changes.specs.vocabulary.Bits.{marks_in}
use Rattle.changes.proofs.Lefts.{lefts-clear, all-marked}
use Rattle.changes.proofs.Renumber.{renumbers-same}
use Rattle.changes.proofs.renumbering.renumber.Goals as goal

pub next_left-left-requires : goal.next_left-left-requires
next_left-left-requires c =
    (c.requires.sizes.1, c.requires.sizes.2)

pub renumber_by_table-requires : goal.renumber_by_table-requires
renumber_by_table-requires c =
    let run = c.next_left-left.ensures in
    record { sizes = (c.requires.sizes.0, run.after, run.within, c.requires.sizes.2); run = (c.requires.clear, run.passed) }

pub returns-then-first-kept : goal.returns-then-first-kept
returns-then-first-kept c = c.renumber_by_table.ensures

pub returns-else-first-kept : goal.returns-else-first-kept
returns-else-first-kept c =
    let ms = marks_in c.args.marks.now in
    let first = lefts-clear ms c.args.first c.args.first c.requires.clear (le_refl c.args.first) in
    renumbers-same ms c.args.first c.args.count c.args.t.now c.requires.clear
    (all-marked ms c.args.first c.args.count (omega (arith, first, c.if-first-kept.false, c.requires.kept)))
