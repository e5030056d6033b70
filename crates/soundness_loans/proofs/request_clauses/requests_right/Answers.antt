use borrow.Author.Rules.{rules}
use Prim.Native.Nat.{ℕ}
use native.Mathlib.Omega.{arith}
use mathlib.Core.Bool.{Bool}
use mathlib.Core.Path.{◌≡◌, refl, ap, ◌∙◌}
use lib.ListN.{length}
use Rattle.soundness_loans.specs.vocabulary.Clauses.{request_right}
use Rattle.rows.specs.declared.Request.{Request}
use Rattle.rows.specs.Layout.{requests_to, records_in}
use Rattle.rows.specs.Lists.{all}
use Rattle.soundness_loans.proofs.RequestClauses.{requests-read, all-next}
use Rattle.soundness_loans.proofs.request_clauses.requests_right.Goals as goal

pub loop-j-init : goal.loop-j-init
unfolding all requests_to
loop-j-init c = (search rules, refl)

pub loop-j-preserved : goal.loop-j-preserved
loop-j-preserved c =
    let a = c.args in
    let turn = c.loop-j in
    let test : Request → Bool = request_right (records_in a.p.now) in
    (search rules, all-next test a.t.now turn.j (c.request_right-right.ensures ∙ ap test c.request_at-v.ensures) turn.invariant.1)

pub returns : goal.returns
returns c = λ st rep d.
    let a = c.args in
    let end : c.loop-j.j ≡ length st.requests = omega (arith, c.loop-j.invariant.0, c.loop-j-test.false, d) in
    let test : Request → Bool = request_right (records_in a.p.now) in
    c.loop-j.invariant.1 ∙ ap (λ (k : ℕ). all test (requests_to a.t.now k)) end ∙ ap (all test) (requests-read rep)
