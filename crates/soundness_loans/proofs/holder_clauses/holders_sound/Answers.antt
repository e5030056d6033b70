use Prim.Native.Nat.{◌-◌}
use native.Mathlib.Omega.{arith}
use mathlib.Core.Bool.{Bool, ◌&&◌}
use mathlib.Core.Path.{refl, ap, sym, ◌∙◌}
use Rattle.rows.specs.Lists.{all}
use Rattle.rows.specs.Layout.{request_at, requests_to}
use Rattle.soundness_loans.specs.vocabulary.Clauses.{items_listable, listed_once}
use Rattle.rows.proofs.Bools.{and_l, and_r}
use Rattle.soundness_loans.proofs.HolderClausesLoops.{listing_start, listing-next, items-lent, lent-next, holders-end}
use Rattle.soundness_loans.proofs.holder_clauses.holders_sound.Goals as goal

pub loop-j-init : goal.loop-j-init
loop-j-init c =
    let a = c.args in
    ((λ st rep e x. refl), (λ st rep e d lent. listing_start st.rows (requests_to a.t.now a.m)))

pub loop-j-preserved : goal.loop-j-preserved
loop-j-preserved c =
    let turn = c.loop-j in
    let a = c.args in
    let t = a.t.now in
    let v = request_at t (turn.j - 1) in
    let r = c.list_request-right in (
      (λ st rep e x.
          let lent = and_l (items_listable st.rows v) (listed_once turn.listing st.rows v) (sym (r.ensures.right st rep e) ∙ and_l r.result turn.right x) in
          lent-next (items_listable st.rows) t turn.j (all (items_listable st.rows) (requests_to t a.m)) c.loop-j-test.true lent
          (turn.invariant.0 st rep e (and_r r.result turn.right x))),
      (λ st rep e d lent.
          let item = items-lent rep lent (turn.j - 1) (omega (arith, turn.auto.j, c.loop-j-test.true, d)) in
          let once = r.ensures.right st rep e ∙ ap (λ (b : Bool). b && listed_once turn.listing st.rows v) item in
          listing-next rep (requests_to t a.m) turn.j turn.listing r.new.listing turn.right r.result c.loop-j-test.true
          item once (r.ensures.marked st rep e) (turn.invariant.1 st rep e d lent)),
    )

pub returns : goal.returns
returns c =
    λ st rep e d.
    let last = c.loop-j in
    let a = c.args in
    holders-end rep a.n a.m e d last.j c.loop-j-test.false last.listing last.right c.rows_held-held.result (last.invariant.0 st rep e)
    (last.invariant.1 st rep e d) c.rows_held-held.ensures
