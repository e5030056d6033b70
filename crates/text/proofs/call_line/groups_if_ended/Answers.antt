-- `call_line::groups_if_ended` meets its contract.
use mathlib.Core.Path.{◌∙◌}
use Rattle.text.proofs.call_line.groups_if_ended.Goals as goal

pub returns-then-not-h-ended : goal.returns-then-not-h-ended
returns-then-not-h-ended c =
    let a = c.args in
    λ x is. c.comes_form.ensures ∙ rw c.if-not-h-ended.true

pub returns-then-h : goal.returns-then-h
returns-then-h c =
    let a = c.args in
    λ x is. c.judge.ensures x is ∙ rw (c.if-not-h-ended.false, c.if-h.true)

pub returns : goal.returns
returns c =
    let a = c.args in
    λ x is. c.judge_pairs.ensures x is ∙ rw (c.if-not-h-ended.false, c.if-h.false)
