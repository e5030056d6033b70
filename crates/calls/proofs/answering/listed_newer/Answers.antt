use borrow.Author.Rules.{rules}
use native.Mathlib.Omega.{arith}
use mathlib.Core.Path.{◌≡◌, ap, ◌∙◌}
use Rattle.calls.proofs.LentEnds.{newer_to, newer-none, newer-more, newer-all}
use Rattle.calls.proofs.answering.listed_newer.Goals as goal

pub loop-k-init : goal.loop-k-init
loop-k-init c = (search rules, newer-none _ _ _)

pub loop-k-preserved : goal.loop-k-preserved
loop-k-preserved c =
    let l = c.loop-k in
    let a = c.args in
    (search rules, newer-more a.t.now a.q a.e l.k c.newer_lists-found.result l.found c.newer_lists-found.ensures l.invariant.1)

pub returns : goal.returns
returns c =
    let l = c.loop-k in
    let a = c.args in
    let all : l.k ≡ a.m = omega (arith, l.invariant.0, c.loop-k-test.false) in
    λ st rep h pos. l.invariant.1 ∙ ap (newer_to a.t.now a.q a.e) all ∙ newer-all a.t.now a.q a.e a.m st rep h pos
