-- `rows_sound::rows_sound` meets its contract: the two groups; pairs count only where all fields are in range.
use Rattle.std.proofs.Common.{◌≤◌, length, arith}
use Rattle.rows.specs.Layout.{records_in}
use Rattle.rows.proofs.ProcessRecords.{length-in}
use Rattle.soundness_rows.proofs.RowsSound.{ports-named, groups-joined}
use Rattle.soundness_rows.proofs.rows_sound.rows_sound.Goals as goal

pub returns : goal.returns
returns c =
    λ st rep long.
    let r = c.sources_sound-sources in
    let ps = records_in c.args.p.now in
    let records : length ps ≤ 64 = omega (arith, length-in 64 c.args.p.now c.requires.sizes.1) in
    groups-joined ps st.rows r.result c.ends_paired-paired.result (r.ensures st rep long)
    (λ h. c.ends_paired-paired.ensures st rep long (ports-named ps st.rows records h))
