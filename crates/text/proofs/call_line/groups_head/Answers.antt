-- `call_line::groups_head` meets its contract: the second byte tells which head is read.
use mathlib.Core.Path.{ap, sym, ◌∙◌}
use Rattle.rows.specs.Lists.{bytes}
use Rattle.text.specs.Patterns.{form}
use Rattle.text.specs.vocabulary.Groups.{ask_head, comes_all_head, head_of}
use Rattle.text.proofs.call_line.groups_head.Goals as goal

pub returns-then-is_c_next : goal.returns-then-is_c_next
unfolding head_of form bytes
returns-then-is_c_next c = rw (sym c.is_c_next.ensures ∙ c.if-is_c_next.true) (ap comes_all_head c.read_form-f.ensures)

pub returns : goal.returns
unfolding head_of form bytes
returns c = rw (sym c.is_c_next.ensures ∙ c.if-is_c_next.false) (ap ask_head c.read_form-f-2.ensures)
