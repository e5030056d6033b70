-- The sources are renumbered; then all columns of the rows are lent as one part, and come back compacted.
use Prim.Native.Nat.{zero-le}
use native.Mathlib.Omega.{arith}
use mathlib.Core.Path.{◌≡◌, ◌∙◌}
use borrow.Rule.Slice.PartMut.{same_len_mid}
use lib.ListN.{length}
use Rattle.rows.specs.Limits.{row_slots, request_slots}
use Rattle.rows.specs.Layout.{row_columns, request_columns, requests_at, next_at, tables_length}
use Rattle.changes.specs.vocabulary.Bits.{marks_in}
use Rattle.changes.proofs.Lefts.{gones-lefts}
use Rattle.changes.proofs.Parts.{part-long}
use Rattle.changes.proofs.Removed.{rows-removed}
use Rattle.changes.proofs.remove.remove_rows.Goals as goal

pub overflow_sub-kept : goal.overflow_sub-kept
overflow_sub-kept c = omega (arith, c.requires.gone, gones-lefts (marks_in c.args.marks.now) c.args.count)

pub next_marked-first-requires : goal.next_marked-first-requires
next_marked-first-requires c = (zero-le, c.requires.sizes.1)

pub renumber-requires : goal.renumber-requires
renumber-requires c =
    let run = c.next_marked-first.ensures in
    record { sizes = (c.requires.sizes.0, run.within, c.requires.sizes.1); clear = run.passed; kept = omega (arith, c.requires.gone, gones-lefts (marks_in c.args.marks.now) c.args.count) }

pub slice_bounds-compact_columns-end : goal.slice_bounds-compact_columns-end
slice_bounds-compact_columns-end c =
    omega (arith, c.renumber.auto.t, c.requires.sizes.0)

pub compact_columns-requires : goal.compact_columns-requires
compact_columns-requires c =
    let run = c.next_marked-first.ensures in
    let u = c.renumber.new.t in
    let long : length u ≡ 11265 = c.renumber.auto.t ∙ c.requires.sizes.0 in record { sizes = (part-long 0 10240 u (omega arith), run.within, c.requires.sizes.1, c.requires.sizes.1); clear = run.passed; kept = omega (arith, c.requires.gone, gones-lefts (marks_in c.args.marks.now) c.args.count) }

pub shape_of-t : goal.shape_of-t
shape_of-t c =
    let u = c.renumber.new.t in
    same_len_mid 0 10240 u c.compact_columns.new.part c.compact_columns.auto.part ∙ c.renumber.auto.t

pub returns : goal.returns
unfolding row_slots row_columns tables_length next_at requests_at request_columns request_slots
returns c = λ st g rep counted marks closed.
    let moved = c.renumber in
    let called = c.compact_columns in
    rows-removed st g c.args.t.now c.args.count (marks_in c.args.marks.now) moved.new.t called.new.part
    c.requires.sizes.0 (moved.auto.t ∙ c.requires.sizes.0) moved.ensures called.ensures rep counted marks closed
