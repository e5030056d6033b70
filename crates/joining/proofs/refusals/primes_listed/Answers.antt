use native.Mathlib.Omega.{arith}
use mathlib.Core.List.{◌++◌}
use mathlib.Core.Path.{refl, sym, ◌∙◌}
use Rattle.rows.specs.Limits.{processes}
use Rattle.rows.specs.vocabulary.Sizes.{PROCESSES}
use Rattle.rows.proofs.Bools.{not_t, not_f}
use Rattle.joining.specs.vocabulary.Listed.{prime_listed}
use Rattle.joining.proofs.NumbersFrom.{all-next, all-stops, all-ends}
use Rattle.joining.proofs.ListedNames.{prime-test}
use Rattle.joining.proofs.refusals.primes_listed.Goals as goal

pub loop-p-init : goal.loop-p-init
unfolding processes
loop-p-init c = (omega arith, omega arith, λ fs gs ha hb hs hw. refl)

pub returns-then-n-given : goal.returns-then-n-given
returns-then-n-given c =
    let l = c.loop-p in
    let words = c.args.words.now in
    λ fs gs ha hb hs hw.
    let test = prime-test words hs hw fs gs l.p _ (c.prime_of-n.ensures hs hw) _ _ (c.has_node.ensures fs ha) (c.has_node-in-loop-p.ensures gs hb) in
    sym (all-stops (prime_listed (fs ++ gs) hs) l.p PROCESSES (omega arith) (not_t _ (sym test ∙ c.if-n-given.true))) ∙ l.invariant.2 fs gs ha hb hs hw

pub loop-p-preserved : goal.loop-p-preserved
loop-p-preserved c =
    let l = c.loop-p in
    let words = c.args.words.now in (
      omega arith,
      omega arith,
      λ fs gs ha hb hs hw.
          let test = prime-test words hs hw fs gs l.p _ (c.prime_of-n.ensures hs hw) _ _ (c.has_node.ensures fs ha) (c.has_node-in-loop-p.ensures gs hb) in
          sym (all-next (prime_listed (fs ++ gs) hs) l.p PROCESSES (omega arith) (not_f _ (sym test ∙ c.if-n-given.false))) ∙ l.invariant.2 fs gs ha hb hs hw,
    )

pub returns : goal.returns
returns c =
    let l = c.loop-p in
    λ fs gs ha hb hs hw. sym (all-ends (prime_listed (fs ++ gs) hs) l.p PROCESSES (omega arith)) ∙ l.invariant.2 fs gs ha hb hs hw
