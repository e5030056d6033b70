-- `replies::print_opening` meets its contract: nothing, then the text.
use mathlib.Core.List.{[]}
use mathlib.Core.Path.{refl}
use Rattle.rows.specs.Lists.{pad}
use Rattle.text.specs.vocabulary.Replies.{in_reply}
use Rattle.text.proofs.replies.print_opening.Goals as goal

pub returns : goal.returns
unfolding in_reply pad
returns c = c.put_opening-length.ensures [] refl
