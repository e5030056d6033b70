use Prim.Native.Nat.{◌+◌}
use native.Mathlib.Omega.{arith}
use mathlib.Core.List.{◌++◌}
use mathlib.Core.Path.{◌≡◌, refl, sym, ap, ◌∙◌}
use lib.ListN.{drop}
use Rattle.rows.specs.Lists.{all}
use Rattle.text.specs.Opening.{entry_listed}
use Rattle.joining.specs.vocabulary.Directories.{entry_of, OfBoth}
use Rattle.joining.proofs.NumbersFrom.{drop-next, drop-stops, drop-ends}
use Rattle.joining.proofs.refusals.are_listed.Goals as goal

pub loop-i-init : goal.loop-i-init
loop-i-init c = (omega arith, λ fs gs ha hb. refl)

pub returns-then-not-is_listed : goal.returns-then-not-is_listed
returns-then-not-is_listed c =
    let l = c.loop-i in
    let codes = c.args.codes.now in
    let is = c.entry_of-e.ensures in
    λ fs gs ha hb.
    let here = ap (entry_listed (fs ++ gs)) (sym is) ∙ sym (c.is_listed.ensures fs gs ha hb) ∙ c.if-not-is_listed.true in
    sym (drop-stops (λ x. entry_listed (fs ++ gs) (entry_of x)) codes l.i (omega arith) here) ∙ l.invariant.1 fs gs ha hb

pub loop-i-preserved : goal.loop-i-preserved
loop-i-preserved c =
    let l = c.loop-i in
    let codes = c.args.codes.now in
    let is = c.entry_of-e.ensures in
    let next : OfBoth _ _ (λ fs gs. all (λ x. entry_listed (fs ++ gs) (entry_of x)) (drop (l.i + 1) codes) ≡ all (λ x. entry_listed (fs ++ gs) (entry_of x)) codes) = λ fs gs ha hb.
    let here = ap (entry_listed (fs ++ gs)) (sym is) ∙ sym (c.is_listed.ensures fs gs ha hb) ∙ c.if-not-is_listed.false in
    sym (drop-next (λ x. entry_listed (fs ++ gs) (entry_of x)) codes l.i (omega arith) here) ∙ l.invariant.1 fs gs ha hb in
    (omega arith, next)

pub returns : goal.returns
returns c =
    let l = c.loop-i in
    let codes = c.args.codes.now in
    λ fs gs ha hb. sym (drop-ends (λ x. entry_listed (fs ++ gs) (entry_of x)) codes l.i (omega arith)) ∙ l.invariant.1 fs gs ha hb
