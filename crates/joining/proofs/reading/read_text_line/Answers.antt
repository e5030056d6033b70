-- `reading::read_text_line` meets its contract: a form that is taken is stored.
use mathlib.Core.Path.{refl, sym, ◌∙◌}
use Rattle.std.proofs.lemmas.Result.{err_from_is_err_and}
use Rattle.text.specs.Opening.{line_of}
use Rattle.joining.specs.vocabulary.Reading.{goes_on}
use Rattle.joining.proofs.ReadLines.{going-form, goes-some, line-stored, line-left}
use Rattle.joining.proofs.reading.read_text_line.Goals as goal

pub returns-in_err-step : goal.returns-in_err-step
unfolding goes_on
returns-in_err-step c =
    let x = c.in_err-step in
    let p = err_from_is_err_and c.from_residual.result c.from_residual.ensures.1 in
    λ fs h g. rw (p.1, p.2) (x.ensures fs g, line-left fs (line_of c.args.line.now) _ _ refl h)

pub store_line-requires : goal.store_line-requires
store_line-requires c =
    let k = c.requires in
    let x = c.in_ok-step in
    let going = goes-some x.step ∙ sym c.is_some.ensures ∙ c.if-is_some.true in
    let g = going-form k.forms (line_of c.args.line.now) _ (x.ensures k.forms k.gives) going in
    record { form = g.form; is = g.is; takes = record { forms = k.forms; held = k.held; taken = g.taken } }

pub returns-then-is_some : goal.returns-then-is_some
returns-then-is_some c =
    let x = c.in_ok-step in
    let goes = goes-some x.step ∙ sym c.is_some.ensures ∙ c.if-is_some.true in
    λ fs h g. (x.ensures fs g, line-stored fs (line_of c.args.line.now) _ _ (x.ensures fs g) goes (λ f is taken. c.store_line.ensures f is fs h taken))

pub returns-else-is_some : goal.returns-else-is_some
returns-else-is_some c =
    let x = c.in_ok-step in
    let stops = goes-some x.step ∙ sym c.is_some.ensures ∙ c.if-is_some.false in
    λ fs h g. (x.ensures fs g, line-left fs (line_of c.args.line.now) _ _ stops h)
