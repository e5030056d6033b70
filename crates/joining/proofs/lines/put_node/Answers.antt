-- `lines::put_node` meets its contract: word, node and entries one after the other.
use native.Mathlib.Omega.{arith}
use Rattle.rows.specs.Lists.{bytes}
use Rattle.text.proofs.ReplyLaws.{puts_then}
use Rattle.joining.specs.Written.{form_text}
use Rattle.joining.proofs.FormTexts.{two_digits}
use Rattle.joining.proofs.lines.put_node.Goals as goal

pub put_entries-listed-requires : goal.put_entries-listed-requires
put_entries-listed-requires c =
    let node = two_digits c.args.n (omega (arith, c.requires.1)) in
    (c.requires.0, omega (arith, c.put_value-numbered.ensures.exact, c.put_text-begun.ensures.grown))

pub put_text-requires : goal.put_text-requires
put_text-requires c =
    let node = two_digits c.args.n (omega (arith, c.requires.1)) in
    omega (arith, c.put_entries-listed.ensures.grown, c.put_value-numbered.ensures.exact, c.put_text-begun.ensures.grown, c.requires.0.0)

pub returns : goal.returns
unfolding form_text bytes
returns c =
    let node = two_digits c.args.n (omega (arith, c.requires.1)) in
    let entries = puts_then _ _ c.put_entries-listed.ensures.put c.put_text.ensures.put in
    let numbered = puts_then _ _ c.put_value-numbered.ensures.put entries in record { put = puts_then _ _ c.put_text-begun.ensures.put numbered; within = omega (arith, c.put_text.ensures.grown, c.put_entries-listed.ensures.grown, c.put_value-numbered.ensures.exact, c.put_text-begun.ensures.grown, c.requires.0.0) }
