-- `opening_lines::read_line` meets its contract.
use native.Mathlib.Omega.{arith}
use mathlib.Core.Path.{◌∙◌}
use lib.ListN.{length}
use borrow.Author.Tests.{lt-ltb, le-ltb}
use Rattle.rows.specs.Limits.{most_bytes}
use Rattle.text.specs.Opening.{line_of}
use Rattle.text.specs.vocabulary.Openings.{line_read}
use Rattle.text.proofs.opening_lines.read_line.Goals as goal

pub returns-then-line-gt-LONGEST_LINE : goal.returns-then-line-gt-LONGEST_LINE
unfolding line_read line_of most_bytes
returns-then-line-gt-LONGEST_LINE c = rw (lt-ltb 256 (length c.args.line.now) (omega arith))

pub returns : goal.returns
unfolding line_of most_bytes
returns c = c.node_form.ensures ∙ rw (le-ltb 256 (length c.args.line.now) (omega arith))
