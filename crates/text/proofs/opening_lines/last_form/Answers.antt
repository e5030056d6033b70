-- `opening_lines::last_form` meets its contract.
use mathlib.Core.Path.{sym, ◌∙◌}
use Rattle.rows.specs.Lists.{bytes}
use Rattle.text.specs.Opening.{open_line}
use Rattle.text.specs.Patterns.{form}
use Rattle.text.specs.vocabulary.Openings.{line_read}
use Rattle.text.proofs.opening_lines.last_form.Goals as goal

pub returns-then-is_whole : goal.returns-then-is_whole
unfolding line_read open_line form bytes
returns-then-is_whole c = rw (sym c.read_form-f.ensures, sym c.is_whole.ensures ∙ c.if-is_whole.true)

pub returns : goal.returns
unfolding line_read open_line form bytes
returns c = rw (sym c.read_form-f.ensures, sym c.is_whole.ensures ∙ c.if-is_whole.false)
