-- The two columns of sources are lent one after the other.
use borrow.Author.Rules.{rules}
use Prim.Native.Nat.{ℕ, ◌≤◌, ◌<◌, ◌+◌}
use native.Mathlib.Omega.{arith}
use mathlib.Core.List.{List}
use mathlib.Core.Path.{◌≡◌, refl, sym, ◌∙◌}
use borrow.Rule.Slice.PartMut.{mid_of, same_len_mid}
use lib.Dec.{lit≤}
use lib.ListN.{length}
use Rattle.changes.specs.vocabulary.Bits.{marks_in}
use Rattle.changes.proofs.Parts.{back, part-long}
use Rattle.changes.proofs.Renumber.{renumbered-by, renumbers-both}
use Rattle.changes.proofs.renumbering.renumber_by_table.Goals as goal

-- these laws know nothing of the code, so `omega` reads little
within : (t : List ℕ) (e : ℕ) → length t ≡ 11265 → e ≤ 11265 → e ≤ length t
within t e l h = omega arith

room : (t : List ℕ) (i count : ℕ) → length t ≡ 11265 → i + 1024 ≤ 11265 → count ≤ 1024 → count ≤ length (mid_of i 1024 t)
room t i count l h few = omega (arith, part-long i 1024 t (omega arith))

below : (count : ℕ) → count ≤ 1024 → count < 1025
below count h = omega arith

-- the first column was lent and came back
long-once : (t ys : List ℕ) → length t ≡ 11265 → length ys ≡ length (mid_of 6144 1024 t) → length (back 6144 1024 t ys) ≡ 11265
long-once t ys e y = same_len_mid 6144 1024 t ys y ∙ e

pub slice_bounds-ranks-end : goal.slice_bounds-ranks-end
slice_bounds-ranks-end c = refl

pub ranks-requires : goal.ranks-requires
ranks-requires c =
    record { sizes = (omega (arith, c.requires.sizes.1, c.requires.sizes.2), c.requires.sizes.3, below c.args.count c.requires.sizes.3); none = refl; clear = c.requires.run.0 }

pub slice_bounds-remap-end : goal.slice_bounds-remap-end
slice_bounds-remap-end c =
    within c.args.t.now 7168 c.requires.sizes.0 (lit≤ tt)

pub slice_bounds-remap-end-2 : goal.slice_bounds-remap-end-2
slice_bounds-remap-end-2 c = sym c.ranks.auto.to

pub remap-requires : goal.remap-requires
remap-requires c =
    let t = c.args.t.now in
    (c.requires.sizes.2, room t 6144 c.args.count c.requires.sizes.0 (lit≤ tt) c.requires.sizes.3, search rules)

pub slice_bounds-remap-end-3 : goal.slice_bounds-remap-end-3
slice_bounds-remap-end-3 c =
    let t = c.args.t.now in
    let ys = c.remap.new.column in
    within (back 6144 1024 t ys) 8192 (long-once t ys c.requires.sizes.0 c.remap.auto.column) (lit≤ tt)

pub slice_bounds-remap-end-4 : goal.slice_bounds-remap-end-4
slice_bounds-remap-end-4 c = sym c.ranks.auto.to

pub remap-requires-2 : goal.remap-requires-2
remap-requires-2 c =
    let t = c.args.t.now in
    let ys = c.remap.new.column in
    let once : List ℕ = back 6144 1024 t ys in
    (c.requires.sizes.2, room once 7168 c.args.count (long-once t ys c.requires.sizes.0 c.remap.auto.column) (lit≤ tt) c.requires.sizes.3, search rules)

pub shape_of-t : goal.shape_of-t
shape_of-t c =
    let t = c.args.t.now in
    let ys = c.remap.new.column in
    same_len_mid 7168 1024 (back 6144 1024 t ys) c.remap-2.new.column c.remap-2.auto.column ∙ same_len_mid 6144 1024 t ys c.remap.auto.column

pub returns : goal.returns
returns c =
    let t = c.args.t.now in
    let ms = marks_in c.args.marks.now in
    let ys = c.remap.new.column in
    let zs = c.remap-2.new.column in
    let once : List ℕ = back 6144 1024 t ys in
    let to = c.ranks.new.to in
    let long : length once ≡ 11265 = long-once t ys c.requires.sizes.0 c.remap.auto.column in
    renumbers-both ms c.args.count t ys zs c.requires.sizes.0
    (c.remap.auto.column ∙ part-long 6144 1024 t (within t 7168 c.requires.sizes.0 (lit≤ tt)))
    (c.remap-2.auto.column ∙ part-long 7168 1024 once (within once 8192 long (lit≤ tt)))
    (renumbered-by ms c.args.first c.args.count c.requires.run.0 c.args.left to (mid_of 6144 1024 t) ys c.requires.sizes.3 c.requires.run.1 c.ranks.ensures c.remap.ensures)
    (renumbered-by ms c.args.first c.args.count c.requires.run.0 c.args.left to (mid_of 7168 1024 once) zs c.requires.sizes.3 c.requires.run.1 c.ranks.ensures c.remap-2.ensures)
