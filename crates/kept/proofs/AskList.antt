-- What a new request lists: the ends is_item and the copies, each once, and 0 up to four.
use Prim.Native.Nat.{ℕ, zero, suc, ◌+◌, ◌<◌, ◌≤◌}
use mathlib.Core.Bool.{Bool, true, false, not, cond, ◌&&◌, ◌||◌}
use mathlib.Core.List.{List, [], ◌∷◌, map}
use mathlib.Core.Path.{◌≡◌, refl, sym, ap, ◌∙◌, subst}
use mathlib.Core.Logic.{◌⊎◌, inl, inr}
use lib.Dec.{ltb, eqb}
use lib.ListN.{length}
use borrow.Author.Tests.{eqb-true, eqb-false, ne_eqb, ltb-true, lt-ltb}
use native.Mathlib.Omega.{arith}
use Rattle.rows.specs.Lists.{filter, any, all, member, distinct, some, nonzero, pad}
use Rattle.rows.specs.Codes.{is_end}
use Rattle.rows.specs.Tables.{State, row_of}
use Rattle.rows.proofs.Bools.{false_of, clash, and_l, and_r, and_i, or_cases, or_l, or_r, not_t, eqb-sym, pos-some, all-mono}
use Rattle.calls.specs.declared.Item.{Item}
use Rattle.calls.specs.Loans.{item_row, moves, copies}
use Rattle.kept.proofs.AskItems.{is_item, listed}

-- ---- a list with 0 after it
pub nonzero-pad : (n : ℕ) (ns : List ℕ) → nonzero (pad 0 n ns) ≡ nonzero ns
unfolding nonzero filter pad some
nonzero-pad zero ns = refl
nonzero-pad (suc n) [] = nonzero-pad n []
nonzero-pad (suc n) (m ∷ ns) = rw (nonzero-pad n ns) refl

pub member-pad : (e : ℕ) → some e ≡ true → (n : ℕ) (ns : List ℕ) → member e (pad 0 n ns) ≡ member e ns
unfolding member pad
member-pad e s zero ns = refl
member-pad e s (suc n) [] = rw (ne_eqb e 0 (λ z. clash s (ap some z ∙ (unfold some in refl)))) (member-pad e s n [])
member-pad e s (suc n) (m ∷ ns) = rw (member-pad e s n ns) refl

pub nonzero-all : (ns : List ℕ) → all some ns ≡ true → nonzero ns ≡ ns
unfolding nonzero filter all
nonzero-all [] a = refl
nonzero-all (n ∷ ns) a = rw (and_l (some n) (all some ns) a, nonzero-all ns (and_r (some n) (all some ns) a)) refl

module _ (st : State) where
  -- ---- the ends is_item
  -- what holds of every item's row holds of an end is_item
  pub named-at : (P : ℕ → Bool) (is : List Item) → all (λ i. P i.row) is ≡ true → (e : ℕ) → is_item st is e ≡ true → P e ≡ true
  unfolding is_item any all
  named-at P [] a e t = clash t refl
  named-at P (i ∷ is) a e t =
      pick (named-at P is (and_r (P i.row) (all (λ i. P i.row) is) a) e) (or_cases (moves st i && eqb i.row e) (any (λ i. moves st i && eqb i.row e) is) t)
    where
      pick : (any (λ i. moves st i && eqb i.row e) is ≡ true → P e ≡ true) → (moves st i && eqb i.row e ≡ true) ⊎ (any (λ i. moves st i && eqb i.row e) is ≡ true) → P e ≡ true
      pick ih (inl q) = ap P (sym (eqb-true i.row e (and_r (moves st i) (eqb i.row e) q))) ∙ and_l (P i.row) (all (λ i. P i.row) is) a
      pick ih (inr q) = ih q

  pub named_end : (is : List Item) (e : ℕ) → is_item st is e ≡ true → is_end (row_of st.rows e).kind ≡ true
  unfolding is_item any
  named_end [] e t = clash t refl
  named_end (i ∷ is) e t = pick (named_end is e) (or_cases (moves st i && eqb i.row e) (any (λ i. moves st i && eqb i.row e) is) t)
    where
      pick : (any (λ i. moves st i && eqb i.row e) is ≡ true → is_end (row_of st.rows e).kind ≡ true) → (moves st i && eqb i.row e ≡ true) ⊎ (any (λ i. moves st i && eqb i.row e) is ≡ true)
          → is_end (row_of st.rows e).kind ≡ true
      pick ih (inl q) =
          subst (λ e. is_end (row_of st.rows e).kind ≡ true) (eqb-true i.row e (and_r (moves st i) (eqb i.row e) q)) (unfold moves item_row in and_l (moves st i) (eqb i.row e) q)
      pick ih (inr q) = ih q

  named-member : (is : List Item) (e : ℕ) → is_item st is e ≡ true → member e (map (λ i. i.row) is) ≡ true
  unfolding is_item any member
  named-member [] e t = t
  named-member (i ∷ is) e t = pick (named-member is e) (or_cases (moves st i && eqb i.row e) (any (λ i. moves st i && eqb i.row e) is) t)
    where
      pick : (any (λ i. moves st i && eqb i.row e) is ≡ true → member e (map (λ i. i.row) is) ≡ true) → (moves st i && eqb i.row e ≡ true) ⊎ (any (λ i. moves st i && eqb i.row e) is ≡ true)
          → eqb e i.row || member e (map (λ i. i.row) is) ≡ true
      pick ih (inl q) = or_l (eqb e i.row) (member e (map (λ i. i.row) is)) (eqb-sym e i.row ∙ and_r (moves st i) (eqb i.row e) q)
      pick ih (inr q) = or_r (eqb e i.row) (member e (map (λ i. i.row) is)) (ih q)

  -- ---- the list
  pub listed-length : (is : List Item) (n : ℕ) → length (listed st is n) ≡ length is
  unfolding listed
  listed-length [] n = refl
  listed-length (i ∷ is) n = pick (listed-length is) (moves st i)
    where
      pick : ((n : ℕ) → length (listed st is n) ≡ length is) → (b : Bool) → length (cond b (i.row ∷ listed st is n) (n ∷ listed st is (suc n))) ≡ suc (length is)
      pick ih true = ap suc (ih n)
      pick ih false = ap suc (ih (suc n))

  pub listed-some : (is : List Item) → all (λ i. some i.row) is ≡ true → (n : ℕ) → 0 < n → all some (listed st is n) ≡ true
  unfolding listed all
  listed-some [] a n h = refl
  listed-some (i ∷ is) a n h = pick (listed-some is (and_r (some i.row) (all (λ i. some i.row) is) a)) (moves st i)
    where
      pick : ((n : ℕ) → 0 < n → all some (listed st is n) ≡ true) → (b : Bool) → all some (cond b (i.row ∷ listed st is n) (n ∷ listed st is (suc n))) ≡ true
      pick ih true = and_i (some i.row) (all some (listed st is n)) (and_l (some i.row) (all (λ i. some i.row) is) a) (ih n h)
      pick ih false = and_i (some n) (all some (listed st is (suc n))) (pos-some n h) (ih (suc n) (omega arith))

  -- an end is_item is listed
  pub named-listed : (is : List Item) (n e : ℕ) → is_item st is e ≡ true → member e (listed st is n) ≡ true
  unfolding listed is_item any member
  named-listed [] n e t = t
  named-listed (i ∷ is) n e t = pick (λ n. named-listed is n e) (moves st i) t
    where
      pick : ((n : ℕ) → any (λ i. moves st i && eqb i.row e) is ≡ true → member e (listed st is n) ≡ true) → (b : Bool) → (b && eqb i.row e) || any (λ i. moves st i && eqb i.row e) is ≡ true
          → member e (cond b (i.row ∷ listed st is n) (n ∷ listed st is (suc n))) ≡ true
      pick ih true t = here (or_cases (eqb i.row e) (any (λ i. moves st i && eqb i.row e) is) t)
        where
          here : (eqb i.row e ≡ true) ⊎ (any (λ i. moves st i && eqb i.row e) is ≡ true) → eqb e i.row || member e (listed st is n) ≡ true
          here (inl q) = or_l (eqb e i.row) (member e (listed st is n)) (eqb-sym e i.row ∙ q)
          here (inr q) = or_r (eqb e i.row) (member e (listed st is n)) (ih n q)
      pick ih false t = or_r (eqb e n) (member e (listed st is (suc n))) (ih (suc n) t)

  -- so is each copy
  pub copy-listed : (is : List Item) (n e : ℕ) → n ≤ e → e < n + length (copies st is) → member e (listed st is n) ≡ true
  unfolding listed copies filter member
  copy-listed [] n e lo hi = absurd (omega arith)
  copy-listed (i ∷ is) n e lo hi = pick (λ n. copy-listed is n e) (moves st i) hi
    where
      pick : ((n : ℕ) → n ≤ e → e < n + length (filter (λ i. not (moves st i)) is) → member e (listed st is n) ≡ true) → (b : Bool)
          → e < n + length (cond (not b) (i ∷ filter (λ i. not (moves st i)) is) (filter (λ i. not (moves st i)) is)) → member e (cond b (i.row ∷ listed st is n) (n ∷ listed st is (suc n))) ≡ true
      pick ih true hi = or_r (eqb e i.row) (member e (listed st is n)) (ih n lo hi)
      pick ih false hi = here (eqb e n) refl
        where
          here : (b : Bool) → eqb e n ≡ b → b || member e (listed st is (suc n)) ≡ true
          here true q = refl
          here false q = let ne = eqb-false e n q in ih (suc n) (omega arith) (omega arith)

  -- and nothing else
  pub listed-cases : (is : List Item) (n e : ℕ) → member e (listed st is n) ≡ true → (is_item st is e ≡ true) ⊎ ((n ≤ e) × (e < n + length (copies st is)))
  unfolding listed is_item any copies filter member
  listed-cases [] n e t = clash t refl
  listed-cases (i ∷ is) n e t = pick (λ n. listed-cases is n e) (moves st i) t
    where
      pick : ((n : ℕ) → member e (listed st is n) ≡ true → (any (λ i. moves st i && eqb i.row e) is ≡ true) ⊎ ((n ≤ e) × (e < n + length (filter (λ i. not (moves st i)) is)))) → (b : Bool)
          → member e (cond b (i.row ∷ listed st is n) (n ∷ listed st is (suc n))) ≡ true
          → ((b && eqb i.row e) || any (λ i. moves st i && eqb i.row e) is ≡ true)
          ⊎ ((n ≤ e) × (e < n + length (cond (not b) (i ∷ filter (λ i. not (moves st i)) is) (filter (λ i. not (moves st i)) is))))
      pick ih true t = here (or_cases (eqb e i.row) (member e (listed st is n)) t)
        where
          there : (any (λ i. moves st i && eqb i.row e) is ≡ true) ⊎ ((n ≤ e) × (e < n + length (filter (λ i. not (moves st i)) is)))
              → (eqb i.row e || any (λ i. moves st i && eqb i.row e) is ≡ true) ⊎ ((n ≤ e) × (e < n + length (filter (λ i. not (moves st i)) is)))
          there (inl q) = inl (or_r (eqb i.row e) (any (λ i. moves st i && eqb i.row e) is) q)
          there (inr q) = inr q

          here : (eqb e i.row ≡ true) ⊎ (member e (listed st is n) ≡ true)
              → (eqb i.row e || any (λ i. moves st i && eqb i.row e) is ≡ true) ⊎ ((n ≤ e) × (e < n + length (filter (λ i. not (moves st i)) is)))
          here (inl q) = inl (or_l (eqb i.row e) (any (λ i. moves st i && eqb i.row e) is) (eqb-sym i.row e ∙ q))
          here (inr q) = there (ih n q)
      pick ih false t = here (or_cases (eqb e n) (member e (listed st is (suc n))) t)
        where
          there : (any (λ i. moves st i && eqb i.row e) is ≡ true) ⊎ ((suc n ≤ e) × (e < suc n + length (filter (λ i. not (moves st i)) is)))
              → (any (λ i. moves st i && eqb i.row e) is ≡ true) ⊎ ((n ≤ e) × (e < n + suc (length (filter (λ i. not (moves st i)) is))))
          there (inl q) = inl q
          there (inr (lo, hi)) = inr (omega arith, omega arith)

          here : (eqb e n ≡ true) ⊎ (member e (listed st is (suc n)) ≡ true)
              → (any (λ i. moves st i && eqb i.row e) is ≡ true) ⊎ ((n ≤ e) × (e < n + suc (length (filter (λ i. not (moves st i)) is))))
          here (inl q) = let z : e ≡ n = eqb-true e n q in inr (omega arith, omega arith)
          here (inr q) = there (ih (suc n) q)

  -- none twice: the items' rows are apart and older than the copies
  pub listed-apart : (is : List Item) → distinct (map (λ i. i.row) is) ≡ true → (n : ℕ) → all (λ i. ltb i.row n) is ≡ true → distinct (listed st is n) ≡ true
  unfolding listed distinct all
  listed-apart [] d n a = refl
  listed-apart (i ∷ is) d n a =
      pick (listed-apart is (and_r (not (member i.row (map (λ i. i.row) is))) (distinct (map (λ i. i.row) is)) d)) (moves st i)
    where
      older : (m : ℕ) → n ≤ m → all (λ i. ltb i.row m) is ≡ true
      older m h =
          all-mono (λ i. ltb i.row n) (λ i. ltb i.row m) (λ i t. let lt = ltb-true i.row n t in lt-ltb i.row m (omega arith)) is (and_r (ltb i.row n) (all (λ i. ltb i.row n) is) a)

      end-apart : (is_item st is i.row ≡ true) ⊎ ((n ≤ i.row) × (i.row < n + length (copies st is))) → ⊥
      end-apart (inl q) = clash (named-member is i.row q) (not_t (member i.row (map (λ i. i.row) is)) (and_l (not (member i.row (map (λ i. i.row) is))) (distinct (map (λ i. i.row) is)) d))
      end-apart (inr (lo, hi)) = let lt = ltb-true i.row n (and_l (ltb i.row n) (all (λ i. ltb i.row n) is) a) in omega arith

      copy_apart : (is_item st is n ≡ true) ⊎ ((suc n ≤ n) × (n < suc n + length (copies st is))) → ⊥
      copy_apart (inl q) = let lt = ltb-true n n (named-at (λ e. ltb e n) is (older n (omega arith)) n q) in omega arith
      copy_apart (inr (lo, hi)) = omega arith

      pick : ((n : ℕ) → all (λ i. ltb i.row n) is ≡ true → distinct (listed st is n) ≡ true) → (b : Bool) → distinct (cond b (i.row ∷ listed st is n) (n ∷ listed st is (suc n))) ≡ true
      pick ih true =
          and_i (not (member i.row (listed st is n))) (distinct (listed st is n)) (ap not (false_of (member i.row (listed st is n)) (λ t. end-apart (listed-cases is n i.row t))))
          (ih n (older n (omega arith)))
      pick ih false =
          and_i (not (member n (listed st is (suc n)))) (distinct (listed st is (suc n))) (ap not (false_of (member n (listed st is (suc n))) (λ t. copy_apart (listed-cases is (suc n) n t))))
          (ih (suc n) (older (suc n) (omega arith)))
