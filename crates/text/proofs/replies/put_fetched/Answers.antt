-- `replies::put_fetched` meets its contract.
use mathlib.Core.List.{◌∷◌, [], map}
use Rattle.rows.specs.Lists.{bytes, nonzero}
use Rattle.calls.specs.Answers.{num, refusal_of, four_of, values_of}
use Rattle.text.specs.Answers.{printed, ok_text, spaced}
use Rattle.text.proofs.ReplyLaws.{puts_then, puts-as, two-parts}
use Rattle.text.proofs.replies.put_fetched.Goals as goal

pub returns : goal.returns
unfolding printed refusal_of values_of four_of ok_text bytes
returns c =
    let a = c.args in
    let ns = nonzero (four_of a.items) in
    let items = puts_then (spaced (map num ns)) _ c.put_items-listed.ensures.put c.put_text.ensures.put in
    let values = puts_then (spaced (num a.v ∷ [])) _ c.put_value-numbered.ensures.put items in
    puts_then _ _ c.put_text-begun.ensures.put (puts-as _ _ (two-parts (num a.v ∷ []) (map num ns) (bytes ")\n")) values)
