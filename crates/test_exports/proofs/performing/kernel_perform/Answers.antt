-- `performing::kernel_perform` meets its contract: where lengths and caller fit, the call of its words; else nothing changes.
use mathlib.Core.Path.{refl, ap, sym, subst, ◌∙◌}
use lib.Dec.{eqb}
use lib.ListN.{get_or}
use Rattle.rows.proofs.Bools.{clash}
use Rattle.calls.specs.declared.Call.{Call}
use Rattle.calls.specs.vocabulary.Performs.{CallerInRange, Performs}
use Rattle.calls.proofs.Carried.{runs_after}
use Rattle.test_exports.specs.vocabulary.Calls.{items_of_words, sixteen_at, words_of_answer}
use Rattle.test_exports.proofs.CallWords.{fits-in-range}
use Rattle.test_exports.proofs.performing.kernel_perform.Goals as goal

pub returns-then-t-ne-TABLES : goal.returns-then-t-ne-TABLES
returns-then-t-ne-TABLES c = record { done = (λ fits st sd rep same listed. absurd (c.if-t-ne-TABLES.true fits.0)); other = (λ not. (refl, refl, refl)) }

pub returns-then-p-ne-RECORDS : goal.returns-then-p-ne-RECORDS
returns-then-p-ne-RECORDS c = record { done = (λ fits st sd rep same listed. absurd (c.if-p-ne-RECORDS.true fits.1)); other = (λ not. (refl, refl, refl)) }

pub returns-then-not-caller_fits : goal.returns-then-not-caller_fits
returns-then-not-caller_fits c =
    let fit = c.caller_fits in
    record { done = (λ fits st sd rep same listed. clash (fit.ensures ∙ fits.2) c.if-not-caller_fits.true); other = (λ not. (refl, refl, refl)) }

pub perform-answer-requires : goal.perform-answer-requires
perform-answer-requires c =
    let fit = c.caller_fits in
    let w = c.args.w.now in
    let range = fits-in-range (get_or w 0 0) (get_or w 1 0) (get_or w 2 0) (items_of_words w) (eqb (get_or w 3 0) 1) (sixteen_at w 1) (sixteen_at w 17) (sym fit.ensures ∙ c.if-not-caller_fits.false) in
    (c.if-t-ne-TABLES.false, c.if-p-ne-RECORDS.false, subst CallerInRange (sym c.call_of-c.ensures) range)

pub returns : goal.returns
returns c =
    let done = c.perform-answer in
    let fit = c.caller_fits in
    let a = c.args in
    let own = subst (λ (x : Call). Performs a.t.now a.p.now x done.new.t done.new.ps done.result) c.call_of-c.ensures done.ensures.performs in record {
      done = (λ fits st sd rep same listed.
          let after = runs_after _ _ _ _ done.ensures.long.1 (own st sd rep same listed) in
          (after.0, c.words_of.ensures ∙ ap words_of_answer after.1));
      other = (λ not. absurd (not (c.if-t-ne-TABLES.false, c.if-p-ne-RECORDS.false, sym fit.ensures ∙ c.if-not-caller_fits.false)));
    }
