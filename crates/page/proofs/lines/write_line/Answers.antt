-- `lines::write_line` meets its contract: spaces, then the five fields.
use Prim.Native.Nat.{ℕ}
use mathlib.Core.List.{[]}
use mathlib.Core.Path.{ap, ◌∙◌}
use Rattle.page.specs.Page.{left_in, line_of}
use Rattle.page.specs.vocabulary.Columns.{WIDTH}
use Rattle.page.proofs.ColumnLaws.{left-none}
use Rattle.page.proofs.lines.write_line.Goals as goal

pub put_fields-requires : goal.put_fields-requires
put_fields-requires c = c.put_left.ensures ∙ ap (λ (w : ℕ). left_in w []) c.requires.wide ∙ left-none WIDTH

pub returns : goal.returns
returns c = c.put_fields.ensures ∙ ap line_of c.shown_at.ensures
