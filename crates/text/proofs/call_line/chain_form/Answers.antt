-- `call_line::chain_form` meets its contract.
use mathlib.Core.Path.{sym, ◌∙◌}
use Rattle.rows.specs.Lists.{bytes}
use Rattle.text.specs.CallLines.{chain_form}
use Rattle.text.specs.Patterns.{form}
use Rattle.text.proofs.call_line.chain_form.Goals as goal

pub returns-then-is_whole : goal.returns-then-is_whole
unfolding chain_form form bytes
returns-then-is_whole c =
    let form-read = sym c.read_form-f.ensures in
    let ends = sym c.is_whole.ensures ∙ c.if-is_whole.true in
    c.if_ranged.ensures ∙ rw (form-read, ends, c.is_number-good.ensures)

pub returns : goal.returns
unfolding chain_form form bytes
returns c = c.into.ensures ∙ rw (sym c.read_form-f.ensures, sym c.is_whole.ensures ∙ c.if-is_whole.false)
