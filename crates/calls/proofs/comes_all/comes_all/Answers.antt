-- What is told of all pairs is the answer.
use mathlib.Core.Path.{refl, ap, ap₂, ◌∙◌}
use lib.ListN.{length}
use Rattle.calls.specs.declared.Call.TheVariants.{ComesAll}
use Rattle.calls.specs.Answers.{numbers_of, all_of}
use Rattle.calls.specs.Rules.{lowest}
use Rattle.calls.specs.Calls.{told_each, sixteen_from, refusals}
use Rattle.calls.proofs.Judging.{accepted-agrees}
use Rattle.calls.proofs.Effected.{told-pairs}
use Rattle.calls.proofs.comes_all.comes_all.Goals as goal

pub tell_all-told-requires : goal.tell_all-told-requires
unfolding all_of numbers_of
tell_all-told-requires c = (c.requires, ap length c.spread-rows.ensures, ap length c.spread-requests.ensures)

pub returns : goal.returns
unfolding refusals lowest
returns c =
    let told = c.tell_all-told in
    let qs = c.spread-requests.ensures in
    let es = c.spread-rows.ensures in
    let a = c.args in
    λ ps st so rep same listed.
    accepted-agrees st (ComesAll a.es a.qs) refl
    (told-pairs st a.es a.qs c.sixteen_from.result rep same
    (c.sixteen_from.ensures ∙ ap sixteen_from (told.ensures.told st so rep ∙ ap₂ (told_each st) es qs)))
