-- `exports::tablet_page` meets its contract: the page's lines, or nothing of tables of another length.
use mathlib.Core.Path.{refl}
use Rattle.entry.proofs.exports.tablet_page.Goals as goal

pub returns-then-tables-ne-TABLES : goal.returns-then-tables-ne-TABLES
returns-then-tables-ne-TABLES c = record { lines = λ long. absurd (c.if-tables-ne-TABLES.true long); misfit = λ _. (refl, refl) }

pub returns : goal.returns
returns c = record { lines = λ _. c.write_lines.ensures; misfit = λ other. absurd (other c.if-tables-ne-TABLES.false) }
