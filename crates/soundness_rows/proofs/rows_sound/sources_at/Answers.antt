-- `rows_sound::sources_at` meets its contract: the words of the row and of its sources, and the tests of them.
use Rattle.std.proofs.Common.{refl, arith}
use Rattle.soundness_rows.proofs.RowsSeen.{row-sources}
use Rattle.soundness_rows.proofs.RowsSound.{sources-at}
use Rattle.soundness_rows.proofs.rows_sound.sources_at.Goals as goal

pub bounds-packs-x : goal.bounds-packs-x
bounds-packs-x c =
    let x = c.row_at-x in
    omega (arith, row-sources c.args.t.now c.args.i x.result x.ensures (omega arith) c.requires.sources)

pub bounds-packs-x-2 : goal.bounds-packs-x-2
bounds-packs-x-2 c =
    let x = c.row_at-x in
    omega (arith, row-sources c.args.t.now c.args.i x.result x.ensures (omega arith) c.requires.sources)

pub returns : goal.returns
returns c =
    λ st rep long f.
    let a = c.args in
    let pre = c.requires in
    let x = c.row_at-x in
    sources-at rep a.i x.result x.ensures a.n _ _ _ a.packs.now long f pre.packed pre.sizes.1 refl refl refl c.sources_right.ensures
