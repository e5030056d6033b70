use borrow.Author.Rules.{rules}
use Prim.Native.Nat.{ℕ}
use native.Mathlib.Omega.{arith}
use mathlib.Core.Path.{◌≡◌, ap, ◌∙◌}
use lib.ListN.{length}
use Rattle.soundness_loans.specs.vocabulary.Clauses.{ports_right, standing_port}
use Rattle.rows.specs.Layout.{requests_to}
use Rattle.soundness_loans.proofs.RequestClausesLoops.{ports-start, ports-next}
use Rattle.soundness_loans.proofs.RequestClauses.{requests-read}
use Rattle.soundness_loans.proofs.request_clauses.ports_right.Goals as goal

pub loop-j-init : goal.loop-j-init
unfolding requests_to
loop-j-init c = (search rules, (λ st rep e. ports-start st.rows))

pub claim-right-requires : goal.claim-right-requires
claim-right-requires c = omega (arith, c.standing_port-s.ensures.within, c.requires.1)

pub loop-j-preserved : goal.loop-j-preserved
loop-j-preserved c = let turn = c.loop-j in
    let p = c.standing_port-s in
    let claim = c.claim-right in (
      search rules,
      (λ st rep e.
          ports-next rep c.args.t.now turn.j turn.marks claim.new.marks turn.right claim.result p.result (p.ensures.found st rep e ∙ ap (standing_port st.rows) c.request_at-v.ensures)
          (omega (arith, p.ensures.within, c.requires.1)) claim.ensures.free claim.ensures.marked (turn.invariant.1 st rep e)),
    )

pub returns : goal.returns
returns c = λ st rep e d.
    let end : c.loop-j.j ≡ length st.requests = omega (arith, c.loop-j.invariant.0, c.loop-j-test.false, d) in
    (c.loop-j.invariant.1 st rep e).told
    ∙ ap (λ (k : ℕ). ports_right st.rows (requests_to c.args.t.now k)) end
    ∙ ap (ports_right st.rows) (requests-read rep)
