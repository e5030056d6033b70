-- `opening_words::write_process` meets its contract: a process form, or `(open)`.
use mathlib.Core.Path.{refl, sym, ◌∙◌}
use Rattle.rows.specs.Lists.{bytes}
use Rattle.text.specs.Patterns.{form}
use Rattle.text.proofs.SecondPass.{open-named, open-written, process-fits, process-missing, process-listed, process-written}
use Rattle.text.proofs.opening_words.write_process.Goals as goal

pub returns-then-not-is_whole : goal.returns-then-not-is_whole
unfolding form bytes
returns-then-not-is_whole c =
    let w = c.is_whole in
    let f = c.read_form-f in
    let a = c.args in
    let no-form = sym w.ensures ∙ c.if-not-is_whole.true in
    record { named = open-named a.line.now f.result f.ensures a.rows no-form a.g; written = open-written a.line.now f.result f.ensures a.rows no-form a.p.now; long = c.requires.0 }

pub returns-then-not-is_given : goal.returns-then-not-is_given
unfolding form bytes
returns-then-not-is_given c =
    let given = c.is_given in
    let w = c.is_whole in
    let f = c.read_form-f in
    let a = c.args in
    let is-form = sym w.ensures ∙ c.if-not-is_whole.false in
    record { named = process-missing a.line.now f.result f.ensures a.rows is-form a.g given.result given.ensures c.if-not-is_given.true; written = λ t h. absurd (h refl); long = c.requires.0 }

pub write_record-requires : goal.write_record-requires
unfolding form bytes
write_record-requires c =
    let w = c.is_whole in
    let f = c.read_form-f in
    let a = c.args in
    let is-form = sym w.ensures ∙ c.if-not-is_whole.false in
    let fits = process-fits a.line.now f.result f.ensures a.rows is-form c.requires.1 in
    (c.requires.0, fits.0, fits.1)

pub returns : goal.returns
unfolding form bytes
returns c =
    let sets = c.write_record in
    let given = c.is_given in
    let w = c.is_whole in
    let f = c.read_form-f in
    let a = c.args in
    let is-form = sym w.ensures ∙ c.if-not-is_whole.false in
    record { named = process-listed a.line.now f.result f.ensures a.rows is-form a.g given.result given.ensures c.if-not-is_given.false; written = process-written a.line.now f.result f.ensures a.rows is-form a.p.now _ sets.ensures.set; long = sets.ensures.long }
