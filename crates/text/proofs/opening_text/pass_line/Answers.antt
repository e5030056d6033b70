-- `opening_text::pass_line` meets its contract: by what the line is.
use mathlib.Core.Path.{sym, ◌∙◌, refl}
use Rattle.text.specs.Opening.{line_of}
use Rattle.text.specs.vocabulary.Openings.{EndsText, RefusedWith}
use Rattle.text.proofs.PassLaws.{steps-node, steps-process, steps-last, steps-bad}
use Rattle.text.proofs.opening_text.pass_line.Goals as goal

pub returns-in-Node : goal.returns-in-Node
returns-in-Node c =
    let s = c.args.line.now in
    λ fs k. steps-node fs (line_of s) c.node_step.result _ _ _ (sym c.in-Node.is ∙ c.read_line-l.ensures) (λ es t. c.node_step.ensures fs es k t)

pub returns-in-Process : goal.returns-in-Process
returns-in-Process c =
    let s = c.args.line.now in
    λ fs k. steps-process fs (line_of s) c.process_step.result _ _ (sym c.in-Process.is ∙ c.read_line-l.ensures) (c.process_step.ensures fs k)

pub returns-in-Last : goal.returns-in-Last
unfolding EndsText
returns-in-Last c =
    λ fs k. steps-last fs (line_of c.args.line.now) _ (sym c.in-Last.is ∙ c.read_line-l.ensures) tt

pub returns-in-Bad : goal.returns-in-Bad
unfolding RefusedWith
returns-in-Bad c =
    λ fs k. steps-bad fs (line_of c.args.line.now) _ (sym c.in-Bad.is ∙ c.read_line-l.ensures) refl
