use native.Mathlib.Omega.{arith}
use mathlib.Core.List.{◌++◌}
use mathlib.Core.Path.{refl, sym, ap, ◌∙◌}
use Rattle.rows.specs.Lists.{all}
use Rattle.rows.specs.Limits.{nodes}
use Rattle.text.specs.Opening.{entry_listed}
use Rattle.text.specs.vocabulary.Sizes.{NODES}
use Rattle.joining.specs.Joins.{entries_of}
use Rattle.joining.specs.vocabulary.Directories.{entry_of}
use Rattle.joining.specs.vocabulary.Listed.{node_listed}
use Rattle.joining.proofs.MergedNodes.{passed-good}
use Rattle.joining.proofs.NumbersFrom.{all-next, all-stops, all-ends}
use Rattle.joining.proofs.ListedNames.{codes-listed}
use Rattle.joining.proofs.refusals.nodes_listed.Goals as goal

pub loop-n-init : goal.loop-n-init
unfolding nodes
loop-n-init c = (omega arith, omega arith, λ fs gs ha hb hs hw. refl)

pub returns-then-not-are_listed : goal.returns-then-not-are_listed
returns-then-not-are_listed c =
    let l = c.loop-n in
    let words = c.args.words.now in
    let end = c.codes_end-end.ensures in
    λ fs gs ha hb hs hw.
    let here = c.are_listed.ensures fs gs ha hb ∙ ap (all (λ x. entry_listed (fs ++ gs) (entry_of x))) (end.codes hs hw) ∙ codes-listed (entry_listed (fs ++ gs)) (entries_of hs l.n) (passed-good hs hw.passed l.n) in
    sym (all-stops (node_listed (fs ++ gs) hs) l.n NODES (omega arith) (sym here ∙ c.if-not-are_listed.true)) ∙ l.invariant.2 fs gs ha hb hs hw

pub loop-n-preserved : goal.loop-n-preserved
loop-n-preserved c =
    let l = c.loop-n in
    let words = c.args.words.now in
    let end = c.codes_end-end.ensures in (
      omega arith,
      omega arith,
      λ fs gs ha hb hs hw.
          let here = c.are_listed.ensures fs gs ha hb ∙ ap (all (λ x. entry_listed (fs ++ gs) (entry_of x))) (end.codes hs hw) ∙ codes-listed (entry_listed (fs ++ gs)) (entries_of hs l.n) (passed-good hs hw.passed l.n) in
          sym (all-next (node_listed (fs ++ gs) hs) l.n NODES (omega arith) (sym here ∙ c.if-not-are_listed.false)) ∙ l.invariant.2 fs gs ha hb hs hw,
    )

pub returns : goal.returns
returns c =
    let l = c.loop-n in
    λ fs gs ha hb hs hw. sym (all-ends (node_listed (fs ++ gs) hs) l.n NODES (omega arith)) ∙ l.invariant.2 fs gs ha hb hs hw
