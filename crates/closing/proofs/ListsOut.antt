-- The items of a request that stays open leave its list: one of them, and one after the other.
use Prim.Native.Nat.{ℕ, zero, suc, ◌+◌, ◌<◌, ◌≤◌}
use mathlib.Core.Bool.{Bool, true, false, cond, ◌&&◌}
use mathlib.Core.List.{List, [], ◌∷◌, ◌++◌, map, append-nil}
use mathlib.Core.Path.{◌≡◌, refl, ap, sym, subst, ◌∙◌}
use native.Mathlib.Nat.{not-suc-le-zero, le_of_suc-le-suc}
use native.Mathlib.Numerals.{add-one}
use native.Mathlib.Omega.{arith}
use lib.Dec.{eqb}
use lib.ListN.{length, get_or, take, drop, set, drop_of_length-le}
use lib.Seq.{take_all}
use Rattle.rows.specs.declared.Request.{Request}
use Rattle.rows.specs.Lists.{rises, member, some, nonzero}
use Rattle.rows.specs.Tables.{State, numbers}
use Rattle.rows.specs.vocabulary.Represents.{Represents, change_request}
use Rattle.rows.specs.vocabulary.Slots.{request_slot}
use Rattle.rows.specs.Setters.{with_requests, with_items}
use Rattle.rows.proofs.Bools.{clash, and_i, eqb-self, pos-some, member-here, member-there, eqb-sym-f, or-fl, or-fr, all-at}
use Rattle.rows.proofs.Keyed.{rises-rest, rises-fresh}
use Rattle.tables.proofs.Picked.{older-other}
use Rattle.rows.proofs.Slots.{represented-well, slot-number}
use Rattle.changes.specs.vocabulary.Changes.{item_cleared}
use Rattle.closing.specs.vocabulary.Marks.{Stands}
use Rattle.closing.specs.vocabulary.Lists.{item_out, items_out, ItemsStand}
use Rattle.rows.proofs.Lists.{member-nonzero}

-- ---- a change of one element of a list whose keys rise
module _ {A : Type 0} (key : A → ℕ) (h : A → A) where
  abbrev at_key : ℕ → A → A
  at_key n y = cond (eqb (key y) n) (h y) y

  none-changed : (n : ℕ) (xs : List A) → member n (map key xs) ≡ false → map (at_key n) xs ≡ xs
  unfolding member
  none-changed n [] e = refl
  none-changed n (x ∷ xs) e =
      let q = eqb-sym-f n (key x) (or-fl (eqb n (key x)) (member n (map key xs)) e) in
      let ih = none-changed n xs (or-fr (eqb n (key x)) (member n (map key xs)) e) in
      λ i. cond (q i) (h x) x ∷ ih i

  member-cut : (new : List A) (x : A) (old : List A) → member (key x) (map key (new ++ (x ∷ old))) ≡ true
  member-cut [] x old = member-here (key x) (map key old)
  member-cut (y ∷ new) x old = member-there (key x) (key y) (map key (new ++ (x ∷ old))) (member-cut new x old)

  pub change-cut : (new : List A) (x : A) (old : List A) → rises key (new ++ (x ∷ old)) ≡ true
      → map (at_key (key x)) (new ++ (x ∷ old)) ≡ new ++ (h x ∷ old)
  change-cut [] x old up =
      let q = eqb-self (key x) in
      let rest = none-changed (key x) old (rises-fresh key x old up) in
      λ i. cond (q i) (h x) x ∷ rest i
  change-cut (y ∷ new) x old up =
      let q = older-other key y (new ++ (x ∷ old)) up (key x) (member-cut new x old) in
      let rest = change-cut new x old (rises-rest key y (new ++ (x ∷ old)) up) in
      λ i. cond (q i) (h y) y ∷ rest i

-- ---- one item
pub none-zero : (e : ℕ) → e ≡ 0 → (b : Bool) → some e && b ≡ false
unfolding some
none-zero e z b = rw z refl

pub none_passes : (a b : Bool) → b ≡ false → a && b ≡ false
none_passes true b e = e
none_passes false b e = refl

abbrev pub with_here : State → List Request → Request → List Request → State
with_here st new w old = with_requests (new ++ (w ∷ old)) st

module _ {st : State} {t : List ℕ} (rep : Represents t st)
    (new : List Request) (w : Request) (old : List Request) (cut : st.requests ≡ new ++ (w ∷ old)) where
  same_here : with_here st new w old ≡ st
  same_here = λ i. record { rows = st.rows; requests = sym cut i; processes = st.processes; next = st.next }

  rise : rises (λ v. v.number) (new ++ (w ∷ old)) ≡ true
  rise = subst (λ (l : List Request). rises (λ v. v.number) l ≡ true) cut (represented-well rep).requests-rise

  -- its slot
  pub slot-here : (j : ℕ) → length old ≡ j → request_slot st.requests w.number ≡ suc j
  unfolding request_slot
  slot-here j e = ap (λ (l : List Request). request_slot l w.number) cut ∙ slot-number (λ v. v.number) new w old rise ∙ ap suc e

  cleared-here : (k : ℕ) → change_request w.number (item_cleared k) st ≡ with_here st new (item_cleared k w) old
  unfolding change_request
  cleared-here k =
      let requests = ap (map (λ v. cond (eqb v.number w.number) (item_cleared k v) v)) cut
      ∙ change-cut (λ v. v.number) (item_cleared k) new w old rise in
      λ i. record { rows = st.rows; requests = requests i; processes = st.processes; next = st.next }

  module _ (c : ℕ → Bool) (k e : ℕ) where
    pub out-same : some e && c e ≡ false → Represents t (with_here st new (item_out c k e w) old)
    unfolding item_out
    out-same h = subst (λ (s : State). Represents t s) (sym (ap (λ (b : Bool). with_here st new (cond b (item_cleared k w) w) old) h ∙ same_here)) rep

    pub out-now : some e && c e ≡ true → (t' : List ℕ)
        → Represents t' (change_request w.number (item_cleared k) st) → Represents t' (with_here st new (item_out c k e w) old)
    unfolding item_out
    out-now h t' l =
        subst (λ (s : State). Represents t' s) (cleared-here k ∙ sym (ap (λ (b : Bool). with_here st new (cond b (item_cleared k w) w) old) h)) l

-- ---- one item after the other
module _ (c : ℕ → Bool) where
  abbrev pub out : ℕ → ℕ
  out e = cond (c e) 0 e

  -- the first k items are done
  unfoldable pub done_to : ℕ → List ℕ → List ℕ
  done_to k is = map out (take k is) ++ drop k is

  unfoldable pub out_to : ℕ → Request → Request
  out_to k v = with_items (done_to k v.items) v

  done-same : (k : ℕ) (is : List ℕ) → out (get_or is k 0) ≡ get_or is k 0 → done_to (suc k) is ≡ done_to k is
  unfolding done_to
  done-same zero [] h = refl
  done-same (suc k) [] h = refl
  done-same zero (x ∷ is) h = λ i. h i ∷ is
  done-same (suc k) (x ∷ is) h = ap (λ (l : List ℕ). out x ∷ l) (done-same k is h)

  done-set : (k : ℕ) (is : List ℕ) → out (get_or is k 0) ≡ 0 → set (done_to k is) k 0 ≡ done_to (suc k) is
  unfolding done_to
  done-set zero [] h = refl
  done-set (suc k) [] h = refl
  done-set zero (x ∷ is) h = λ i. sym h i ∷ is
  done-set (suc k) (x ∷ is) h = ap (λ (l : List ℕ). out x ∷ l) (done-set k is h)

  pub out-start : (v : Request) → out_to 0 v ≡ v
  unfolding out_to done_to
  out-start v = refl

  pub out_step : (k : ℕ) (v : Request) → item_out c k (get_or v.items k 0) (out_to k v) ≡ out_to (k + 1) v
  unfolding item_out out_to item_cleared
  out_step k v = rw (add-one k) (pick (some e) refl (c e) refl)
    where
      e : ℕ
      e = get_or v.items k 0

      zero-out : (n : ℕ) → some n ≡ false → (b : Bool) → cond b 0 n ≡ n
      zero-out zero q true = refl
      zero-out (suc n) q true = clash (pos-some (suc n) (omega arith)) q
      zero-out n q false = refl

      to : done_to (suc k) v.items ≡ done_to k v.items → with_items (done_to k v.items) v ≡ with_items (done_to (suc k) v.items) v
      to q = ap (λ (l : List ℕ). with_items l v) (sym q)

      pick : (a : Bool) → some e ≡ a → (b : Bool) → c e ≡ b
          → cond (a && b) (item_cleared k (with_items (done_to k v.items) v)) (with_items (done_to k v.items) v) ≡ with_items (done_to (suc k) v.items) v
      pick true p true q = ap (λ (l : List ℕ). with_items l v) (done-set k v.items (ap (λ (b : Bool). cond b 0 e) q))
      pick true p false q = to (done-same k v.items (ap (λ (b : Bool). cond b 0 e) q))
      pick false p b q = to (done-same k v.items (zero-out e p (c e)))

  pub out-end : (k : ℕ) (v : Request) → length v.items ≤ k → out_to k v ≡ items_out c v
  unfolding out_to done_to items_out
  out-end k v h =
      ap (λ (l : List ℕ). with_items (map out l ++ drop k v.items) v) (take_all k v.items h)
      ∙ ap (λ (l : List ℕ). with_items (map out v.items ++ l) v) (drop_of_length-le v.items h)
      ∙ ap (λ (l : List ℕ). with_items l v) (append-nil (map out v.items))

-- ---- the loop over the items, of which those that are there stand
member-at : (is : List ℕ) (k : ℕ) → k < length is → member (get_or is k 0) is ≡ true
member-at [] k h = absurd (not-suc-le-zero h)
member-at (x ∷ is) zero h = member-here x is
member-at (x ∷ is) (suc k) h = member-there (get_or is k 0) x is (member-at is k (le_of_suc-le-suc h))

pub item-stands : (st : State) (is : List ℕ) (k : ℕ) → k < length is → ItemsStand st is → some (get_or is k 0) ≡ true → Stands st (get_or is k 0)
item-stands st is k h stand e =
    all-at (λ e. member e (numbers st.rows)) (nonzero is) stand (get_or is k 0)
    (member-nonzero is (get_or is k 0) ∙ and_i (some (get_or is k 0)) (member (get_or is k 0) is) e (member-at is k h))

module _ (st : State) (new old : List Request) (c : ℕ → Bool) where
  -- the state with the first k items of v done
  abbrev pub out_state : ℕ → Request → State
  out_state k v = with_here st new (out_to c k v) old

  pub loop-start : (v : Request) (t : List ℕ) → Represents t st → st.requests ≡ new ++ (v ∷ old) → Represents t (out_state 0 v)
  loop-start v t rep cut =
      subst (λ (s : State). Represents t s) (sym (ap (λ (w : Request). with_here st new w old) (out-start c v) ∙ same_here rep new v old cut)) rep

  -- the next item done in that state
  pub loop-turn : (k : ℕ) (v : Request) (items : List ℕ) → v.items ≡ items → (t : List ℕ)
      → Represents t (with_here (out_state k v) new (item_out c k (get_or items k 0) (out_to c k v)) old) → Represents t (out_state (k + 1) v)
  loop-turn k v items e t rep =
      subst (λ (w : Request). Represents t (with_here st new w old)) (ap (λ (l : List ℕ). item_out c k (get_or l k 0) (out_to c k v)) (sym e) ∙ out_step c k v) rep

  pub loop-end : (k : ℕ) (v : Request) → length v.items ≤ k → (t : List ℕ)
      → Represents t (out_state k v) → Represents t (with_here st new (items_out c v) old)
  loop-end k v h t rep = subst (λ (w : Request). Represents t (with_here st new w old)) (out-end c k v h) rep
