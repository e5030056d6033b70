-- Words of another length, words not laid, and the clauses of the state that the words represent. Assumes nothing.
use mathlib.Core.Path.{refl, ◌∙◌}
use Rattle.rows.specs.Layout.{state_of}
use Rattle.rows.proofs.Bools.{and_l}
use Rattle.rows.proofs.Slots.{represented-rows, represented-requests}
use Rattle.soundness.proofs.SoundParts.{tables-short, records-short, not-laid, decided-represents, laid-sound}
use Rattle.std.proofs.Common.{ap}
use mathlib.Core.Bool.{not}
use Rattle.soundness.proofs.sound.sound.Goals as goal

pub returns-then-tables-ne-TABLES : goal.returns-then-tables-ne-TABLES
returns-then-tables-ne-TABLES c = tables-short c.args.tables.now c.args.processes.now c.if-tables-ne-TABLES.true

pub returns-then-processes-ne-RECORDS : goal.returns-then-processes-ne-RECORDS
returns-then-processes-ne-RECORDS c =
    records-short c.args.tables.now c.args.processes.now c.if-tables-ne-TABLES.false c.if-processes-ne-RECORDS.true

pub returns-then-not-rows-requests : goal.returns-then-not-rows-requests
returns-then-not-rows-requests c =
    let requests = c.requests_laid-requests in
    not-laid c.args.tables.now c.args.processes.now c.rows_in-n.result c.requests_in-m.result c.rows_laid-rows.result requests.result
    c.rows_in-n.ensures.counted c.requests_in-m.ensures.counted c.rows_laid-rows.ensures requests.ensures (ap not c.if-not-rows-requests.true)

pub clauses_sound-requires : goal.clauses_sound-requires
clauses_sound-requires c =
    let laid = c.rows_laid-rows.ensures.holds (and_l c.rows_laid-rows.result c.requests_laid-requests.result c.if-not-rows-requests.false) in
    record { sizes = (c.if-tables-ne-TABLES.false, c.if-processes-ne-RECORDS.false, c.rows_in-n.ensures.within, c.requests_in-m.ensures.within); sources = (λ i h. (laid.sources i h, laid.vias i h)) }

pub returns : goal.returns
unfolding state_of
returns c =
    let requests = c.requests_laid-requests in
    let t = c.args.tables.now in
    let p = c.args.processes.now in
    let rep =
    decided-represents t p c.rows_in-n.result c.requests_in-m.result c.rows_laid-rows.result requests.result
    c.rows_in-n.ensures.counted c.requests_in-m.ensures.counted c.rows_laid-rows.ensures requests.ensures c.if-tables-ne-TABLES.false (ap not c.if-not-rows-requests.false) in
    c.clauses_sound.ensures (state_of t p) rep refl (c.rows_in-n.ensures.counted ∙ represented-rows rep) (c.requests_in-m.ensures.counted ∙ represented-requests rep)
    ∙ laid-sound t p c.if-tables-ne-TABLES.false c.if-processes-ne-RECORDS.false rep
