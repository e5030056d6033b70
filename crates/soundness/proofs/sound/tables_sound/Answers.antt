-- The clauses of rows, requests, holders and processes, joined. Assumes nothing.
use mathlib.Core.Path.{ap, sym, ◌∙◌}
use Rattle.rows.specs.Sound.{placed_from, processes_placed}
use Rattle.soundness_rows.specs.vocabulary.Clauses.{all_but_loans}
use Rattle.soundness.proofs.SoundParts.{groups-sound, records-fit}
use Rattle.soundness.proofs.sound.tables_sound.Goals as goal

pub holders_sound-holders-requires : goal.holders_sound-holders-requires
holders_sound-holders-requires c =
    record { sizes = (c.requires.sizes.0, c.requires.sizes.2, c.requires.sizes.3); vias = (λ i h. (c.requires.sources i h).1) }

pub returns : goal.returns
unfolding processes_placed
returns c = λ st rep pe en em next records.
    let holders = c.holders_sound-holders in
    let requests = c.requests_sound-requests in
    let rows = c.rows_sound-rows in
    groups-sound st rep (records-fit st c.args.p.now c.requires.sizes.1 pe) rows.result requests.result holders.result c.processes_placed-placed.result
    (rows.ensures st rep en ∙ ap (λ ps. all_but_loans ps st.rows) (sym pe)) (requests.ensures st rep pe en em) (holders.ensures st rep en em)
    (c.processes_placed-placed.ensures st rep en ∙ ap (placed_from st.rows 1) (sym pe)) next records
