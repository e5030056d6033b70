-- The next number and the records, then the tables. Assumes nothing.
use mathlib.Core.Path.{ap, sym, ◌∙◌}
use Rattle.rows.specs.Lists.{all}
use Rattle.rows.specs.Sound.{record_in_range, records_in_range}
use Rattle.soundness.proofs.SoundParts.{clauses-sound}
use Rattle.soundness.proofs.sound.clauses_sound.Goals as goal

pub returns : goal.returns
unfolding records_in_range
returns c = λ st rep pe en em.
    let next = c.next_sound-next in
    let records = c.records_sound-records in
    clauses-sound st next.result records.result c.tables_sound-tables.result (next.ensures st rep en em)
    (records.ensures ∙ ap (all record_in_range) (sym pe)) (λ plain listed. c.tables_sound-tables.ensures st rep pe en em plain listed)
