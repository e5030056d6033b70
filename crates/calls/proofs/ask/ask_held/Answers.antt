-- `ask::ask_held`: refused, or the request made.
use mathlib.Core.Path.{refl, ap, sym, subst, ◌∙◌}
use mathlib.Core.List.{List}
use Rattle.rows.specs.vocabulary.Represents.{Represents}
use Rattle.calls.specs.declared.Item.{Item}
use Rattle.calls.specs.Rules.{lowest}
use Rattle.calls.specs.Loans.{with_request}
use Rattle.std.proofs.lemmas.Result.{err_from_is_err_and}
use Rattle.calls.specs.Calls.{refusals, refusals_ask}
use Rattle.calls.specs.declared.Call.TheVariants.{Ask}
use Rattle.calls.specs.vocabulary.Answering.{HasBoth}
use Rattle.calls.proofs.Judging.{refusal-some, refused-answers, accepted-answers}
use Rattle.calls.proofs.Effected.{made-request}
use Rattle.calls.proofs.ask.ask_held.Goals as goal

pub returns-in_err-ask_refusal : goal.returns-in_err-ask_refusal
unfolding refusals
returns-in_err-ask_refusal c =
    let no = c.in_err-ask_refusal in
    let (y, err, residual) = err_from_is_err_and c.from_residual.result c.from_residual.ensures.1 in
    let count = c.count_requests-m in
    let w = c.args.w in record {
      answers = (λ st is sd h over held same.
          let both : HasBoth c.args.t.now c.args.n count.result st = (h.0, h.1, count.ensures.counted st h.0) in
          rw (err, residual) (refused-answers st (Ask w.asker w.port is) h.0 _ (no.ensures.lowest st sd both over held ∙ ap (λ (js : List Item). lowest (refusals_ask st w.asker w.port js)) same) (refusal-some _)));
      long = c.requires.0;
    }

pub add_request-requires : goal.add_request-requires
add_request-requires c =
    let no = c.in_ok-ask_refusal in
    (c.requires.0, c.requires.2, c.requires.3, no.ensures.space refl)

pub returns : goal.returns
unfolding refusals
returns c =
    let added = c.add_request in
    let no = c.in_ok-ask_refusal in
    let count = c.count_requests-m in
    let w = c.args.w in record {
      answers = (λ st is sd h over held same.
          let both : HasBoth c.args.t.now c.args.n count.result st = (h.0, h.1, count.ensures.counted st h.0) in
          let none = no.ensures.lowest st sd both over held ∙ ap (λ (js : List Item). lowest (refusals_ask st w.asker w.port js)) same in
          accepted-answers st (Ask w.asker w.port is) none _
          (made-request st w.asker w.port is w.number (sym over.1)
          (subst (λ (js : List Item). Represents added.new.t (with_request st w.asker w.port js)) same (added.ensures.made st sd both over held))));
      long = added.ensures.long;
    }
