-- `lines::shown_at` meets its contract.
use mathlib.Core.Path.{ap}
use Rattle.page.specs.Page.{shown}
use Rattle.page.proofs.lines.shown_at.Goals as goal

pub returns : goal.returns
unfolding shown
returns c = ap shown c.row_at-r.ensures
