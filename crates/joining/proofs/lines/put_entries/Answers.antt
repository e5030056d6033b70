use borrow.Author.Rules.{rules}
use native.Mathlib.Omega.{arith}
use mathlib.Core.List.{◌++◌}
use mathlib.Core.Path.{◌≡◌, sym, ap, ◌∙◌}
use lib.ListN.{length, take, get_or}
use lib.Seq.{get_or-take, length-take-le, take_all}
use borrow.Author.Tests.{ltb-true}
use Rattle.text.proofs.ReplyLaws.{puts_none, puts_then, puts-as}
use Rattle.joining.specs.vocabulary.Directories.{entry_of}
use Rattle.joining.specs.vocabulary.Merged.{CODES}
use Rattle.joining.specs.vocabulary.Lines.{CODE-LIMIT, codes_in, codes_text}
use Rattle.joining.specs.Written.{entries_text, entry_text}
use Rattle.joining.proofs.EntryCodes.{code_fits}
use Rattle.joining.proofs.SlotLines.{codes-more, code_at}
use Rattle.joining.proofs.lines.put_entries.Goals as goal

pub loop-i-init : goal.loop-i-init
unfolding entries_text
loop-i-init c =
    let few = c.requires.0.0 in
    let long : length c.args.c.codes ≡ CODES = search rules in
    (omega arith, omega arith, omega arith, puts_none c.args.o.now c.args.at)

pub put_entry-end-requires : goal.put_entry-end-requires
put_entry-end-requires c =
    let l = c.loop-i in
    let k = c.args.c in
    let long = length-take-le k.count k.codes l.invariant.1 in
    let small = ltb-true (get_or (codes_in k) l.i 0) CODE-LIMIT (code_at (codes_in k) l.i c.requires.0.1 (omega arith)) in
    let same = get_or-take k.count k.codes l.i 0 (omega arith) in
    (rw c.entry_of.ensures (code_fits (get_or k.codes l.i 0) (omega arith)), omega (arith, l.invariant.2, c.requires.0.0, c.requires.1, c.loop-i-test.true))

pub loop-i-preserved : goal.loop-i-preserved
loop-i-preserved c =
    let l = c.loop-i in
    let k = c.args.c in
    let long = length-take-le k.count k.codes l.invariant.1 in
    let same = get_or-take k.count k.codes l.i 0 (omega arith) in
    let text = sym (codes-more (codes_in k) l.i (omega arith) ∙ ap (λ x. codes_text (take l.i (codes_in k)) ++ entry_text (entry_of x)) same) in
    let put = puts_then _ _ l.invariant.3 (rw c.entry_of.ensures at c.put_entry-end.ensures.put) in
    (omega arith, l.invariant.1, omega arith, puts-as _ _ text put)

pub returns : goal.returns
returns c =
    let l = c.loop-i in
    let k = c.args.c in
    let all : l.i ≡ k.count = omega arith in
    let long = length-take-le k.count k.codes l.invariant.1 in
    record { put = puts-as _ _ (ap codes_text (take_all l.i (codes_in k) (omega arith))) l.invariant.3; grown = omega arith }
