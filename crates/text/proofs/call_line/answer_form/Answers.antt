-- `call_line::answer_form` meets its contract.
use mathlib.Core.Path.{sym, ◌∙◌}
use Rattle.rows.specs.Lists.{bytes}
use Rattle.text.specs.CallLines.{answer_form}
use Rattle.text.specs.Patterns.{form}
use Rattle.text.proofs.call_line.answer_form.Goals as goal

pub returns-then-is_whole : goal.returns-then-is_whole
unfolding answer_form form bytes
returns-then-is_whole c =
    let form-read = sym c.read_form-f.ensures in
    let ends = sym c.is_whole.ensures ∙ c.if-is_whole.true in
    c.if_ranged.ensures ∙ rw (form-read, ends, c.is_process.ensures, c.is_number.ensures)

pub returns : goal.returns
unfolding answer_form form bytes
returns c =
    c.chain_form.ensures ∙ rw (sym c.read_form-f.ensures, sym c.is_whole.ensures ∙ c.if-is_whole.false)
