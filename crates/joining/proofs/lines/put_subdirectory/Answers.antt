-- `lines::put_subdirectory` meets its contract: word, node and rights one after the other.
use native.Mathlib.Omega.{arith}
use mathlib.Core.List.{[], ◌∷◌}
use Rattle.rows.specs.Lists.{bytes}
use Rattle.calls.specs.Answers.{num}
use Rattle.text.proofs.ReplyLaws.{puts_then, puts-as, two-parts}
use Rattle.joining.specs.Written.{subdirectory_text}
use Rattle.joining.proofs.FormTexts.{one-digit, two_digits}
use Rattle.joining.proofs.lines.put_subdirectory.Goals as goal

pub put_value-rights-requires : goal.put_value-rights-requires
put_value-rights-requires c =
    let node = two_digits c.args.e.object c.requires.0.0 in
    omega (arith, c.put_value-node.ensures.exact, c.put_text-begun.ensures.grown, c.requires.1)

pub put_text-requires : goal.put_text-requires
put_text-requires c =
    let node = two_digits c.args.e.object c.requires.0.0 in
    let rights = one-digit c.args.e.rights (omega (arith, c.requires.0.2)) in
    omega (arith, c.put_value-rights.ensures.exact, c.put_value-node.ensures.exact, c.put_text-begun.ensures.grown, c.requires.1)

pub returns : goal.returns
unfolding subdirectory_text bytes
returns c =
    let e = c.args.e in
    let node = two_digits e.object c.requires.0.0 in
    let rights = one-digit e.rights (omega (arith, c.requires.0.2)) in
    let rights-end = puts_then _ _ c.put_value-rights.ensures.put c.put_text.ensures.put in
    let whole = puts-as _ _ (two-parts (num e.object ∷ []) (num e.rights ∷ []) (bytes ")")) (puts_then _ _ c.put_value-node.ensures.put rights-end) in
    record { put = puts_then _ _ c.put_text-begun.ensures.put whole; grown = omega (arith, c.put_text.ensures.grown, c.put_value-rights.ensures.exact, c.put_value-node.ensures.exact, c.put_text-begun.ensures.grown) }
