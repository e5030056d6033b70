use Prim.Native.Nat.{◌+◌}
use native.Mathlib.Omega.{arith}
use mathlib.Core.Path.{refl, sym, ◌∙◌}
use lib.ListN.{drop}
use borrow.Author.Tests.{not-true}
use Rattle.text.specs.Patterns.{began}
use Rattle.text.proofs.PatternLaws.{pieces_more, pieces_end, pieces-bad}
use Rattle.text.proofs.patterns.read_form.Goals as goal

pub loop-p-init : goal.loop-p-init
unfolding began
loop-p-init c = refl

pub returns-then-not-r : goal.returns-then-not-r
returns-then-not-r c =
    let a = c.args in
    let more = pieces_more a.s.now c.loop-p.r a.t.now c.loop-p.p-index (omega arith) in
    let stays = pieces-bad a.s.now c.read_piece-r.result (drop (c.loop-p.p-index + 1) a.t.now) (not-true _ c.if-not-r.true) in
    sym stays ∙ rw c.read_piece-r.ensures (sym more ∙ c.loop-p.invariant)

pub loop-p-preserved : goal.loop-p-preserved
loop-p-preserved c =
    let a = c.args in
    rw c.read_piece-r.ensures (sym (pieces_more a.s.now c.loop-p.r a.t.now c.loop-p.p-index (omega arith)) ∙ c.loop-p.invariant)

pub returns : goal.returns
returns c =
    let a = c.args in
    sym (pieces_end a.s.now c.loop-p.r a.t.now c.loop-p.p-index (omega arith)) ∙ c.loop-p.invariant
