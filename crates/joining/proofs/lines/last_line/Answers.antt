-- `lines::last-line` meets its contract.
use mathlib.Core.List.{[]}
use mathlib.Core.Path.{refl}
use Rattle.rows.specs.Lists.{bytes, pad}
use Rattle.text.specs.vocabulary.Replies.{in_reply}
use Rattle.joining.proofs.lines.last_line.Goals as goal

pub returns : goal.returns
unfolding in_reply pad bytes
returns c = c.put_text-length.ensures.put [] refl
