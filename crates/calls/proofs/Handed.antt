-- Rows that go to a place: that of one item, those of several; and the open request in its slot.
use Prim.Native.Nat.{ℕ, suc, ◌-◌, ◌<◌, ◌≤◌}
use mathlib.Core.Bool.{Bool, true, false, cond, ◌&&◌, ◌||◌}
use mathlib.Core.List.{List, [], ◌∷◌, ◌++◌, map, map-map}
use mathlib.Core.Path.{◌≡◌, refl, ap, sym, subst, ◌∙◌}
use native.Mathlib.Omega.{arith}
use lib.Dec.{eqb}
use lib.ListN.{length, get_or, drop, drop_of_length-le, length-map}
use lib.Seq.{drop-cons}
use Rattle.rows.specs.declared.Row.{Row}
use Rattle.rows.specs.declared.Request.{Request}
use Rattle.rows.specs.Lists.{rises, member, some, slot_with}
use Rattle.rows.specs.Codes.{in_clist}
use Rattle.rows.specs.Tables.{State, no_request, open_on, numbers, lists}
use Rattle.rows.specs.Layout.{row_slot}
use Rattle.rows.specs.Setters.{with_rows, with_place}
use Rattle.rows.specs.vocabulary.Represents.{Represents, change_row, change_request}
use Rattle.rows.specs.vocabulary.Slots.{request_slot, open_slot}
use Rattle.rows.proofs.Bools.{or-fl, or-fr, and-false, eqb-sym-f}
use Rattle.rows.proofs.Lists.{map_same}
use Rattle.rows.proofs.Keyed.{older_of}
use Rattle.rows.proofs.Slots.{row-none, slot-number, slot-member, slot-older, cut-first, newer_of}
use Rattle.changes.specs.vocabulary.Changes.{as_fetched}
use Rattle.closing.specs.vocabulary.Lists.{among}
use Rattle.closing.proofs.ListsMarks.{among_one, among-zero}
use Rattle.calls.specs.Loans.{handed_to, now_fetched, handed_over}
use Rattle.calls.specs.vocabulary.Loans.{placed_among, items_placed}

module _ (place : ℕ) where
  -- ---- one item
  stays : (is : List ℕ) (r : Row) → among is r.number ≡ false → placed_among is place r ≡ r
  unfolding placed_among
  stays is r h = rw h refl

  none-placed : (is : List ℕ) (st : State) → ((n : ℕ) → among is n ≡ false) → items_placed is place st ≡ st
  unfolding items_placed
  none-placed is st h = ap (λ (rs : List Row). with_rows rs st) (map_same (placed_among is place) (λ r. stays is r (h r.number)) st.rows)

  pub zero-placed : (e : ℕ) (st : State) → e ≡ 0 → items_placed (e ∷ []) place st ≡ st
  zero-placed e st z = none-placed (e ∷ []) st (λ n. ap (λ (k : ℕ). among (k ∷ []) n) z ∙ among-zero n)

  pub nothing_placed : (st : State) → items_placed [] place st ≡ st
  unfolding among member
  nothing_placed st = none-placed [] st (λ n. and-false (some n))

  -- no row has the number
  rows_stay : (e : ℕ) → some e ≡ true → (rs : List Row) → member e (map (λ r. r.number) rs) ≡ false → map (placed_among (e ∷ []) place) rs ≡ rs
  unfolding member
  rows_stay e h [] q = refl
  rows_stay e h (r ∷ rs) q =
      let other : eqb r.number e ≡ false = eqb-sym-f e r.number (or-fl (eqb e r.number) (member e (map (λ r. r.number) rs)) q) in
      let here = stays (e ∷ []) r (among_one e r.number h ∙ other) in
      let ih = rows_stay e h rs (or-fr (eqb e r.number) (member e (map (λ r. r.number) rs)) q) in
      λ i. here i ∷ ih i

  pub absent-placed : (e : ℕ) (st : State) → some e ≡ true → row_slot st.rows e ≡ 0 → items_placed (e ∷ []) place st ≡ st
  unfolding items_placed numbers
  absent-placed e st h s = ap (λ (rs : List Row). with_rows rs st) (rows_stay e h st.rows (row-none st.rows e s))

  pub one_placed : (e : ℕ) (st : State) → some e ≡ true → change_row e (with_place place) st ≡ items_placed (e ∷ []) place st
  unfolding change_row items_placed placed_among
  one_placed e st h = λ i. with_rows (map (λ r. cond (sym (among_one e r.number h) i) (with_place place r) r) st.rows) st

  -- ---- one after the other
  number-kept : (is : List ℕ) (r : Row) → (placed_among is place r).number ≡ r.number
  unfolding placed_among with_place
  number-kept is r = pick (among is r.number)
    where
      pick : (b : Bool) → (cond b (with_place place r) r).number ≡ r.number
      pick true = refl
      pick false = refl

  row_step : (e : ℕ) (is : List ℕ) (r : Row) → placed_among (e ∷ []) place (placed_among is place r) ≡ placed_among (e ∷ is) place r
  unfolding placed_among among member with_place
  row_step e is r =
      ap (λ (n : ℕ). cond (some n && (eqb n e || false)) (with_place place (placed_among is place r)) (placed_among is place r)) (number-kept is r)
      ∙ pick (some r.number) (eqb r.number e) (member r.number is)
    where
      pick : (s q m : Bool)
          → cond (s && (q || false)) (with_place place (cond (s && m) (with_place place r) r)) (cond (s && m) (with_place place r) r) ≡ cond (s && (q || m)) (with_place place r) r
      pick true true true = refl
      pick true true false = refl
      pick true false true = refl
      pick true false false = refl
      pick false q m = refl

  pub placed-step : (e : ℕ) (is : List ℕ) (st : State) → items_placed (e ∷ []) place (items_placed is place st) ≡ items_placed (e ∷ is) place st
  unfolding items_placed
  placed-step e is st =
      ap (λ (rs : List Row). with_rows rs st) (map-map (placed_among (e ∷ []) place) (placed_among is place) st.rows ∙ (λ i. map (λ r. row_step e is r i) st.rows))

  pub placed-count : (is : List ℕ) (st : State) (n : ℕ) → n ≡ length st.rows → n ≡ length (items_placed is place st).rows
  unfolding items_placed
  placed-count is st n e = e ∙ sym (length-map st.rows (placed_among is place))

  -- ---- the loop from the last item to the first
  module _ (items : List ℕ) (st : State) (t : List ℕ) where
    pub placed-start : (k : ℕ) → length items ≤ k → Represents t st → Represents t (items_placed (drop k items) place st)
    placed-start k h rep = subst (λ (s : State). Represents t s) (sym (ap (λ (l : List ℕ). items_placed l place st) (drop_of_length-le items {i = k} h) ∙ nothing_placed st)) rep

    pub placed-turn : (k : ℕ) → 0 < k → k ≤ length items → Represents t (items_placed (get_or items (k - 1) 0 ∷ []) place (items_placed (drop k items) place st))
        → Represents t (items_placed (drop (k - 1) items) place st)
    placed-turn k pos h rep =
        let next : suc (k - 1) ≡ k = omega arith in
        let cut = drop-cons items (k - 1) 0 (omega arith) ∙ ap (λ (m : ℕ). get_or items (k - 1) 0 ∷ drop m items) next in
        subst (λ (s : State). Represents t s) (placed-step (get_or items (k - 1) 0) (drop k items) st ∙ ap (λ (l : List ℕ). items_placed l place st) (sym cut)) rep

    pub placed_end : (k : ℕ) → k ≡ 0 → Represents t (items_placed (drop k items) place st) → Represents t (items_placed items place st)
    placed_end k z rep = subst (λ (m : ℕ). Represents t (items_placed (drop m items) place st)) z rep

-- ---- the request open on a port, by its number
pub open-number : (vs : List Request) → rises (λ v. v.number) vs ≡ true → (c j : ℕ) → open_slot vs c ≡ suc j → request_slot vs (open_on vs c).number ≡ suc j
unfolding request_slot open_slot open_on
open-number vs up c j e =
    let v = open_on vs c in
    let newer = newer_of (λ v. v.port) vs c in
    let older = older_of (λ v. v.port) vs c in
    let cut : vs ≡ newer ++ (v ∷ older) = cut-first (λ v. v.port) no_request vs c (slot-member (λ v. v.port) vs c j e) in
    ap (λ (l : List Request). slot_with (λ v. v.number) l v.number) cut
    ∙ slot-number (λ v. v.number) newer v older (subst (λ (l : List Request). rises (λ v. v.number) l ≡ true) cut up)
    ∙ ap suc (slot-older (λ v. v.port) vs c j e)

-- ---- fetch
pub handed-state : (p : ℕ) (v : Request) (st : State) → change_request v.number as_fetched (items_placed v.items (in_clist p) st) ≡ handed_over p v st
unfolding change_request as_fetched items_placed placed_among among handed_over handed_to now_fetched lists
handed-state p v st = refl
