-- `replies::put_opening` meets its contract.
use mathlib.Core.List.{◌∷◌, []}
use borrow.Author.Tests.{ne_eqb}
use Rattle.rows.specs.Lists.{bytes}
use Rattle.calls.specs.Answers.{num}
use Rattle.text.specs.Answers.{no_text}
use Rattle.text.specs.vocabulary.Replies.{opening_text}
use Rattle.text.proofs.ReplyLaws.{puts_then, puts-as, two-parts}
use Rattle.text.proofs.replies.put_opening.Goals as goal

pub returns-then-k-eq0 : goal.returns-then-k-eq0
unfolding opening_text
returns-then-k-eq0 c = rw c.if-k-eq0.true c.put_accepted.ensures

pub returns : goal.returns
unfolding opening_text no_text bytes
returns c =
    let a = c.args in
    let line = puts_then _ _ c.put_value-lined.ensures.put c.put_text.ensures.put in
    let values = puts_then _ _ c.put_value-numbered.ensures.put line in
    let put = puts_then _ _ c.put_text-begun.ensures.put (puts-as _ _ (two-parts (num a.k ∷ []) (num a.line ∷ []) (bytes ")\n")) values) in
    rw (ne_eqb a.k 0 c.if-k-eq0.false) put
