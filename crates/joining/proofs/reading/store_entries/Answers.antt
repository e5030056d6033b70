use native.Mathlib.Omega.{arith}
use mathlib.Core.Path.{◌≡◌, refl, sym, ◌∙◌}
use lib.ListN.{length-set}
use Rattle.joining.proofs.StoredEntries.{storing-starts, storing-stops, entry-fits, storing-goes-on, storing-ends}
use Rattle.joining.proofs.reading.store_entries.Goals as goal

pub loop-n-init : goal.loop-n-init
loop-n-init c = let a = c.args in (refl, storing-starts a.words.now a.at a.line.now a.from)

pub returns-in_default : goal.returns-in_default
returns-in_default c =
    let l = c.loop-n in
    storing-stops c.args.words.now c.args.at c.args.line.now c.args.from l.i l.n l.words l.invariant.1 c.requires.0 c.requires.1 (sym c.in_default.ensures)

pub entry_code-requires : goal.entry_code-requires
entry_code-requires c =
    let l = c.loop-n in
    let e = c.in-Some in
    entry-fits c.args.words.now c.args.at c.args.line.now c.args.from l.i l.n l.words l.invariant.1 c.requires.0 c.requires.1 e.entry e.next (sym e.ensures) (omega arith)

pub loop-n-preserved : goal.loop-n-preserved
loop-n-preserved c =
    let l = c.loop-n in
    let e = c.in-Some in
    let next = storing-goes-on c.args.words.now c.args.at c.args.line.now c.args.from l.i l.n l.words l.invariant.1 c.requires.0 c.requires.1 e.entry e.next (sym e.ensures) (omega arith) in
    (length-set l.words _ _ ∙ l.invariant.0, rw c.entry_code.ensures next)

pub returns : goal.returns
returns c =
    let l = c.loop-n in
    let full : l.n ≡ 16 = omega arith in
    storing-ends c.args.words.now c.args.at c.args.line.now c.args.from l.i 16 l.words (rw full at l.invariant.1) c.requires.1 (omega arith)
