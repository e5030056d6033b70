use borrow.Author.Rules.{rules}
use Prim.Native.Nat.{◌+◌}
use native.Mathlib.Omega.{arith}
use mathlib.Core.Path.{◌≡◌, ap, ◌∙◌}
use Rattle.calls.proofs.Used.{used_to, used-none, used-more, used_all}
use Rattle.calls.proofs.directories.is_source.Goals as goal

pub loop-k-init : goal.loop-k-init
loop-k-init c = (search rules, used-none _ _)

pub loop-k-preserved : goal.loop-k-preserved
loop-k-preserved c =
    let l = c.loop-k in
    let a = c.args in
    (search rules, used-more a.t.now (a.i + 1) l.k l.found l.invariant.1)

pub returns : goal.returns
returns c =
    let l = c.loop-k in
    let a = c.args in
    let all : l.k ≡ a.n = omega (arith, l.invariant.0, c.loop-k-test.false) in
    λ st e h at. l.invariant.1 ∙ ap (used_to a.t.now (a.i + 1)) all ∙ used_all h.0 e a.i at a.n h.1
