-- `call_line::first_four` meets its contract.
use mathlib.Core.Path.{sym}
use Rattle.text.specs.vocabulary.Groups.{groups_from}
use Rattle.text.proofs.GroupLaws.{four-packed}
use Rattle.text.proofs.call_line.first_four.Goals as goal

pub returns : goal.returns
unfolding groups_from
returns c = λ x e. rw e (sym (four-packed x))
