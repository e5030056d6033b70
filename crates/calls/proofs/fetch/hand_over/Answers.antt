-- `fetch::hand_over`: the items go to the caller, then the request is fetched.
use Prim.Native.Nat.{ℕ}
use mathlib.Core.Path.{subst, ◌∙◌}
use Rattle.rows.specs.declared.Request.{Request}
use Rattle.rows.specs.Codes.{in_clist}
use Rattle.rows.specs.Tables.{State, open_on}
use Rattle.rows.specs.vocabulary.Represents.{Represents}
use Rattle.rows.proofs.Slots.{represented-well, raw-open}
use Rattle.calls.specs.vocabulary.Loans.{items_placed}
use Rattle.calls.proofs.Handed.{open-number, handed-state}
use Rattle.calls.proofs.fetch.hand_over.Goals as goal

pub returns : goal.returns
unfolding items_placed
returns c =
    let put = c.set_fetched in
    let placed = c.place_items in
    let place = c.clist-place in
    let read = c.request_at-v in
    let a = c.args in record {
      handed = (λ st port h at few.
          let v = open_on st.requests port in
          let here = subst (λ (w : Request). Represents placed.new.t (items_placed w.items place.result st)) (read.ensures ∙ raw-open h.0 port a.j at) (placed.ensures.placed st h) in
          let mid = subst (λ (k : ℕ). Represents placed.new.t (items_placed v.items k st)) (place.ensures few) here in
          subst (λ (x : State). Represents put.new.t x) (handed-state a.p v st)
          (put.ensures.represents (items_placed v.items (in_clist a.p) st) v.number mid (open-number st.requests (represented-well h.0).requests-rise port a.j at)));
      long = put.ensures.long;
    }
