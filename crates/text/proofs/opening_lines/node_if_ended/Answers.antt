-- `opening_lines::node_if_ended` meets its contract.
use mathlib.Core.Path.{◌∙◌}
use Rattle.text.specs.vocabulary.Openings.{line_read, entries_read}
use Rattle.text.proofs.opening_lines.node_if_ended.Goals as goal

pub returns-then-f-ended : goal.returns-then-f-ended
unfolding line_read entries_read
returns-then-f-ended c = λ g is. rw (c.if-f-ended.true, is)

pub returns : goal.returns
returns c = λ g is. c.process_form.ensures ∙ rw c.if-f-ended.false
