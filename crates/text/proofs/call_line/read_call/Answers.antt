-- `call_line::read_call` meets its contract.
use native.Mathlib.Omega.{arith}
use mathlib.Core.Path.{◌∙◌}
use lib.ListN.{length}
use borrow.Author.Tests.{lt-ltb, le-ltb}
use Rattle.rows.specs.Limits.{most_bytes}
use Rattle.text.specs.CallLines.{reading_of}
use Rattle.text.proofs.call_line.read_call.Goals as goal

pub returns-then-line-gt-LONGEST_LINE : goal.returns-then-line-gt-LONGEST_LINE
unfolding reading_of most_bytes
returns-then-line-gt-LONGEST_LINE c = c.into.ensures ∙ rw (lt-ltb 256 (length c.args.line.now) (omega arith))

pub returns : goal.returns
unfolding reading_of most_bytes
returns c =
    let a = c.args in
    c.groups_form.ensures ∙ rw (le-ltb 256 (length a.line.now) (omega arith))
