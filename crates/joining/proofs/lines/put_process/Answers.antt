-- `lines::put_process` meets its contract: word, process and node one after the other.
use native.Mathlib.Omega.{arith}
use mathlib.Core.List.{[], ◌∷◌}
use Rattle.rows.specs.Lists.{bytes}
use Rattle.calls.specs.Answers.{num}
use Rattle.text.proofs.ReplyLaws.{puts_then, puts-as, two-parts}
use Rattle.joining.specs.Written.{form_text}
use Rattle.joining.proofs.lines.put_process.Goals as goal

pub returns : goal.returns
unfolding form_text bytes
returns c =
    let a = c.args in
    let last = puts_then _ _ c.put_value-placed.ensures.put c.put_text.ensures.put in
    let whole = puts-as _ _ (two-parts (num a.p ∷ []) (num a.n ∷ []) (bytes ")\n")) (puts_then _ _ c.put_value-numbered.ensures.put last) in
    record { put = puts_then _ _ c.put_text-begun.ensures.put whole; within = omega arith }
