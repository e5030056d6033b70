-- `opening_words::read_opening` meets its contract: the first pass, then the second.
use mathlib.Core.Path.{refl, ap, ◌∙◌}
use Rattle.std.proofs.lemmas.Result.{err_from_is_err_and}
use Rattle.text.proofs.WrittenLaws.{zeros, emptied}
use Rattle.text.proofs.WrittenForms.{passed_to, opening-stopped, opening-missing, opening-accepted}
use Rattle.text.proofs.opening_words.read_opening.Goals as goal

pub returns-in_err-given : goal.returns-in_err-given
returns-in_err-given c =
    let f = c.in_err-given in
    let p = err_from_is_err_and c.from_residual.result c.from_residual.ensures.1 in
    let it = opening-stopped c.args.text.now c.args.t.now c.args.p.now _ f.ensures c.requires.empty in
    rw (p.1, p.2) (record { verdict = it.0; written = it.1 })

pub write_forms-requires : goal.write_forms-requires
write_forms-requires c =
    let f = c.in_ok-given in
    record { sizes = c.requires.sizes; empty = c.requires.empty; passed = passed_to c.args.text.now _ f.ensures }

pub returns-in-Some : goal.returns-in-Some
returns-in-Some c =
    let cleared = c.clear in
    let tables = c.clear_tables in
    let w = c.in-Some in
    let text = c.args.text.now in
    let it = opening-missing text _ _ _ (passed_to text _ c.in_ok-given.ensures) w.line w.ensures.missing
    (emptied tables.ensures (cleared.ensures ∙ ap zeros w.ensures.long.1)) in rw c.into.ensures (record { verdict = it.0; written = it.1 })

pub returns : goal.returns
returns c =
    let w = c.in_default in
    let text = c.args.text.now in
    let it = opening-accepted text _ _ _ (passed_to text _ c.in_ok-given.ensures) w.ensures.missing (w.ensures.written refl) in record { verdict = it.0; written = it.1 }
