use native.Mathlib.Omega.{arith}
use mathlib.Core.Path.{refl, sym, ◌∙◌}
use Rattle.rows.specs.Limits.{processes}
use Rattle.rows.specs.vocabulary.Sizes.{PROCESSES}
use Rattle.joining.specs.Joins.{primes_differ}
use Rattle.joining.proofs.NumbersFrom.{any_next, any-stops, any-ends}
use Rattle.joining.proofs.ListedNames.{differ-test}
use Rattle.joining.proofs.refusals.primes_differ.Invariants.{differs}
use Rattle.joining.proofs.refusals.primes_differ.Goals as goal

pub loop-p-init : goal.loop-p-init
unfolding primes_differ processes
loop-p-init c = (omega arith, omega arith, λ fs gs ha hb. refl)

pub returns-then-a-b : goal.returns-then-a-b
returns-then-a-b c =
    let l = c.loop-p in
    let a = c.args in
    λ fs gs ha hb.
    let test = differ-test a.first.now a.second.now fs gs ha hb l.p _ _ (c.prime_of-a.ensures fs ha) (c.prime_of-b.ensures gs hb) in
    sym (any-stops (differs fs gs) l.p PROCESSES (omega arith) (sym test ∙ c.if-a-b.true)) ∙ l.invariant.2 fs gs ha hb

pub loop-p-preserved : goal.loop-p-preserved
loop-p-preserved c =
    let l = c.loop-p in
    let a = c.args in (
      omega arith,
      omega arith,
      λ fs gs ha hb.
          let test = differ-test a.first.now a.second.now fs gs ha hb l.p _ _ (c.prime_of-a.ensures fs ha) (c.prime_of-b.ensures gs hb) in
          sym (any_next (differs fs gs) l.p PROCESSES (omega arith) (sym test ∙ c.if-a-b.false)) ∙ l.invariant.2 fs gs ha hb,
    )

pub returns : goal.returns
returns c =
    let l = c.loop-p in
    λ fs gs ha hb. sym (any-ends (differs fs gs) l.p PROCESSES (omega arith)) ∙ l.invariant.2 fs gs ha hb
