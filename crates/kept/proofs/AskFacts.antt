-- The tables after an ask that is allowed, and how old rows and requests are found in them.
use Prim.Native.Nat.{ℕ, suc, ◌+◌, ◌<◌, ◌≤◌}
use mathlib.Core.Bool.{Bool, true, false, not, cond, ◌&&◌}
use mathlib.Core.List.{List, ◌∷◌, map}
use mathlib.Core.Path.{◌≡◌, refl, sym, ap, ◌∙◌}
use mathlib.Core.Logic.{◌⊎◌, inl, inr}
use lib.Dec.{ltb, eqb}
use lib.ListN.{length}
use borrow.Author.Tests.{eqb-true}
use native.Mathlib.Omega.{arith}
use Rattle.rows.specs.declared.Row.{Row}
use Rattle.rows.specs.declared.Request.{Request}
use Rattle.rows.specs.Lists.{first_with, member, some}
use Rattle.rows.specs.Limits.{most_items}
use Rattle.rows.specs.Codes.{with_system}
use Rattle.rows.specs.Tables.{State, no_row, no_request, row_of, request_of, numbers, lists}
use Rattle.rows.specs.Sound.{requests_rise, copy_listed}
use Rattle.rows.proofs.Bools.{false_of, clash, and_l, and_r, or_cases, not_t, pos-some}
use Rattle.rows.proofs.Keyed.{first-none, rises-range, keys-map}
use Rattle.tables.proofs.Sound.{Sound}
use Rattle.tables.proofs.SoundFacts.{row_below, requests-top, next-some}
use Rattle.rows.proofs.RowSources.{row-there}
use Rattle.rows.specs.Setters.{with_place}
use Rattle.calls.specs.declared.Item.{Item}
use Rattle.calls.specs.Rules.{not_held}
use Rattle.calls.specs.Loans.{copies, new_request}
use Rattle.kept.proofs.Moved.{moved, moved-number, row_moved, row_same}
use Rattle.kept.proofs.Loans.{no-request-lists}
use Rattle.kept.proofs.AskItems.{is_item, listed, stacked}
use Rattle.kept.proofs.AskList.{member-pad, named-at, named-listed, copy-listed, listed-cases}
use Rattle.kept.proofs.AskStack.{row-stacked, numbers-stacked}
use Rattle.kept.proofs.Allowed.{AskAllowed}
use Rattle.kept.proofs.Stand.{held-there}

-- the rows with the ends is_item at the system, the copies on top; the new request; the tables
abbrev pub lent_rows : State → List Item → List Row
lent_rows st is = map (moved (is_item st is) with_system) st.rows

abbrev pub asked_rows : State → ℕ → List Item → List Row
asked_rows st c is = stacked st c st.next (copies st is) (suc st.next) (lent_rows st is)

abbrev pub asked : State → ℕ → ℕ → List Item → Request
asked st p c is = new_request st.next c p (listed st is (suc st.next))

abbrev pub asked_state : State → ℕ → ℕ → List Item → State
asked_state st p c is =
    record { rows = asked_rows st c is; requests = asked st p c is ∷ st.requests; processes = st.processes; next = suc st.next + length (copies st is) }

module _ (st : State) (s : Sound st) (p c : ℕ) (is : List Item) (a : AskAllowed st p c is) where
  -- ---- the ends is_item
  pub none_named : is_item st is 0 ≡ false
  none_named = false_of (is_item st is 0) (λ t. clash (named-at st some is a.rows-some 0 t) (unfold some in refl))

  pub named-held : (e : ℕ) → is_item st is e ≡ true → not_held st p e ≡ false
  named-held e t = not_t (not_held st p e) (named-at st (λ e. not (not_held st p e)) is a.held e t)

  pub named-old : (e : ℕ) → is_item st is e ≡ true → (0 < e) × (e < st.next)
  named-old e t = row_below st s.numbers e (held-there st p e (named-held e t))

  -- ---- the new request's list
  lists-as : (e : ℕ) → some e ≡ true → lists e (asked st p c is) ≡ member e (listed st is (suc st.next))
  unfolding lists new_request
  lists-as e t = rw (t, member-pad e t most_items (listed st is (suc st.next))) refl

  pub lists_named : (e : ℕ) → is_item st is e ≡ true → lists e (asked st p c is) ≡ true
  lists_named e t = lists-as e (named-at st some is a.rows-some e t) ∙ named-listed st is (suc st.next) e t

  pub lists-copy : (e : ℕ) → suc st.next ≤ e → e < suc st.next + length (copies st is) → lists e (asked st p c is) ≡ true
  lists-copy e lo hi = lists-as e (pos-some e (omega arith)) ∙ copy-listed st is (suc st.next) e lo hi

  pub lists-cases : (e : ℕ) → lists e (asked st p c is) ≡ true → (is_item st is e ≡ true) ⊎ ((suc st.next ≤ e) × (e < suc st.next + length (copies st is)))
  lists-cases e t =
      listed-cases st is (suc st.next) e (sym (lists-as e (and_l (some e) (member e (asked st p c is).items) (unfold lists in t))) ∙ t)

  -- ---- old rows
  pub old-found : (m : ℕ) → m < suc st.next → row_of (asked_rows st c is) m ≡ moved (is_item st is) with_system (row_of st.rows m)
  old-found m h = row-stacked st c st.next (copies st is) (suc st.next) (lent_rows st is) m h ∙ row_moved (is_item st is) with_system none_named st.rows m

  pub old-number : (m : ℕ) → m < suc st.next → member m (numbers (asked_rows st c is)) ≡ member m (numbers st.rows)
  old-number m h =
      numbers-stacked st c st.next (copies st is) (suc st.next) (lent_rows st is) m h
      ∙ (unfold numbers in ap (member m) (keys-map (λ r. r.number) (moved (is_item st is) with_system) (moved-number (is_item st is) with_system) st.rows))

  -- a test that no_row fails, that does not look at the place, and that an old row passes
  pub old-passes : (P : Row → Bool) → P no_row ≡ false → ((r : Row) → P (with_place with_system r) ≡ P r) → (m : ℕ) → P (row_of st.rows m) ≡ true → P (row_of (asked_rows st c is) m) ≡ true
  old-passes P z h m e =
      let (lo, hi) = row_below st s.numbers m (row-there P z st.rows m e) in
      ap P (row-stacked st c st.next (copies st is) (suc st.next) (lent_rows st is) m (omega arith)) ∙ row_same (is_item st is) with_system none_named P h st.rows m ∙ e

  -- ---- old requests
  next-unused : member st.next (map (λ v. v.number) st.requests) ≡ false
  next-unused =
      false_of (member st.next (map (λ v. v.number) st.requests)) λ t.
      let (lo, hi) = rises-range (λ v. v.number) st.requests (unfold requests_rise in s.numbers.requests-rise) st.next t in
      let top = requests-top st s.numbers in
      omega arith

  -- the request that an old row bears
  pub request-old : (r : Row) → copy_listed st.requests r ≡ true → request_of (asked st p c is ∷ st.requests) r.request ≡ request_of st.requests r.request
  unfolding copy_listed request_of first_with new_request
  request-old r e = pick (eqb st.next r.request) refl
    where
      unborne : eqb st.next r.request ≡ true
          → (eqb r.request 0 ≡ true) ⊎ (ltb r.request r.number && lists r.number (first_with (λ v. v.number) no_request st.requests r.request) ≡ true)
          → ⊥
      unborne q (inl z) =
          let b : st.next ≡ r.request = eqb-true st.next r.request q in
          let y : r.request ≡ 0 = eqb-true r.request 0 z in
          let pos = next-some st s.numbers in
          omega arith
      unborne q (inr l) =
          let b : st.next ≡ r.request = eqb-true st.next r.request q in
          let none : first_with (λ v. v.number) no_request st.requests r.request ≡ no_request = first-none (λ v. v.number) no_request st.requests r.request (rw (← b) next-unused) in
          clash (and_r (ltb r.request r.number) (lists r.number (first_with (λ v. v.number) no_request st.requests r.request)) l)
          (ap (lists r.number) none ∙ no-request-lists r.number)

      pick : (b : Bool) → eqb st.next r.request ≡ b
          → cond b (asked st p c is) (first_with (λ v. v.number) no_request st.requests r.request) ≡ first_with (λ v. v.number) no_request st.requests r.request
      pick true q =
          absurd (unborne q (or_cases (eqb r.request 0) (ltb r.request r.number && lists r.number (first_with (λ v. v.number) no_request st.requests r.request)) e))
      pick false q = refl
