-- `opening_lines::entry_at` meets its contract.
use mathlib.Core.Path.{sym, refl}
use Rattle.rows.specs.Codes.{operation, subdirectory}
use Rattle.rows.specs.Lists.{bytes}
use Rattle.text.specs.Opening.{operation_entry, subdirectory_entry}
use Rattle.text.specs.Patterns.{form}
use Rattle.text.specs.vocabulary.Openings.{entry_read}
use Rattle.text.proofs.opening_lines.entry_at.Goals as goal

pub returns-then-o : goal.returns-then-o
unfolding entry_read form bytes operation_entry operation
returns-then-o c = rw (sym c.read_form-o.ensures, c.if-o.true) refl

pub returns-then-d : goal.returns-then-d
unfolding entry_read form bytes subdirectory_entry subdirectory
returns-then-d c =
    rw (sym c.read_form-o.ensures, sym c.read_form-d.ensures, c.if-o.false, c.if-d.true) refl

pub returns : goal.returns
unfolding entry_read form bytes
returns c =
    rw (sym c.read_form-o.ensures, sym c.read_form-d.ensures, c.if-o.false, c.if-d.false) refl
