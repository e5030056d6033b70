-- `call_line::simple_form` meets its contract.
use mathlib.Core.Path.{sym, ◌∙◌}
use Rattle.rows.specs.Lists.{bytes}
use Rattle.text.specs.CallLines.{simple_form}
use Rattle.text.specs.Patterns.{form}
use Rattle.text.proofs.call_line.simple_form.Goals as goal

pub returns-then-not-is_whole : goal.returns-then-not-is_whole
unfolding simple_form form bytes
returns-then-not-is_whole c =
    c.answer_form.ensures ∙ rw (sym c.read_form-f.ensures, sym c.is_whole.ensures ∙ c.if-not-is_whole.true)

pub returns : goal.returns
unfolding simple_form form bytes
returns c =
    c.simple_call.ensures ∙ rw (sym c.read_form-f.ensures, sym c.is_whole.ensures ∙ c.if-not-is_whole.false)
