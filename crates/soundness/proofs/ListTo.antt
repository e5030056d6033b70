-- Lists read slot by slot, newest first: the elements of the first k slots, what is laid out of them, and the slots of their keys.
use Prim.Native.Nat.{ℕ, zero, suc, ◌<◌, ◌≤◌}
use mathlib.Core.Bool.{Bool, true}
use mathlib.Core.List.{List, [], ◌∷◌, ◌++◌}
use mathlib.Core.Path.{◌≡◌, refl, ap, sym, subst, ◌∙◌}
use mathlib.Core.Logic.{⊎_elim}
use native.Mathlib.Nat.{eq-or-lt_of_le, le_of_suc-le-suc}
use native.Mathlib.Omega.{arith}
use lib.ListN.{length, get_or, length-append, get_or-eq_default}
use Rattle.rows.specs.Lists.{all, each, top_of, rises, laid, slot_with}
use Rattle.soundness.specs.vocabulary.Laid.{before, Rising}
use Rattle.rows.proofs.Bools.{and_i}
use Rattle.rows.proofs.Keyed.{rises-first, rises-rest, rises-cons}
use Rattle.rows.proofs.KeySlots.{slot-number}
use Rattle.rows.proofs.LayoutColumns.{laid-at}

-- nothing is laid out past the elements
pub laid-past : {A : Type 0} (f : A → List A → ℕ) (xs : List A) (i : ℕ) → length xs ≤ i → get_or (laid f xs) i 0 ≡ 0
unfolding laid
laid-past {A} f xs i h = get_or-eq_default (laid f xs) 0 (omega (arith, long xs))
  where
    long : (ys : List A) → length (laid f ys) ≡ length ys
    long [] = refl
    long (y ∷ ys) = omega (arith, length-append (laid f ys) (f y ys ∷ []), long ys)

module _ {A : Type 0} (at : ℕ → A) where
  -- the elements of the first k slots, newest first
  unfoldable pub list_to : ℕ → List A
  list_to zero = []
  list_to (suc i) = at i ∷ list_to i

  pub length_to : (k : ℕ) → length (list_to k) ≡ k
  unfolding list_to
  length_to zero = refl
  length_to (suc k) = ap suc (length_to k)

  -- cut at slot i
  pub cut-to : (k i : ℕ) → i < k → (new : List A) × (list_to k ≡ new ++ (at i ∷ list_to i))
  unfolding list_to
  cut-to zero i h = absurd (omega arith)
  cut-to (suc k) i h =
      ⊎_elim (λ e. ([], ap (λ (j : ℕ). at j ∷ list_to j) (sym e)))
      (λ lt. let (new, e) = cut-to k i lt in (at k ∷ new, ap (λ (l : List A). at k ∷ l) e)) (eq-or-lt_of_le (le_of_suc-le-suc h))

  pub each_to : (F : A → List A → Bool) (k : ℕ) → ((i : ℕ) → i < k → F (at i) (list_to i) ≡ true) → each F (list_to k) ≡ true
  unfolding list_to each
  each_to F zero h = refl
  each_to F (suc k) h = and_i (F (at k) (list_to k)) (each F (list_to k)) (h k (omega arith)) (each_to F k (λ i lt. h i (omega arith)))

  pub all-to : (P : A → Bool) (k : ℕ) → ((i : ℕ) → P (at i) ≡ true) → all P (list_to k) ≡ true
  unfolding list_to all
  all-to P zero h = refl
  all-to P (suc k) h = and_i (P (at k)) (all P (list_to k)) (h k) (all-to P k h)

  pub laid-to : (f : A → List A → ℕ) (k i : ℕ) → i < k → get_or (laid f (list_to k)) i 0 ≡ f (at i) (list_to i)
  laid-to f k i h =
      let (new, e) = cut-to k i h in
      ap (λ (l : List A). get_or (laid f l) i 0) e
      ∙ subst (λ (j : ℕ). get_or (laid f (new ++ (at i ∷ list_to i))) j 0 ≡ f (at i) (list_to i)) (length_to i) (laid-at f new (at i) (list_to i))

  module _ (key : A → ℕ) where
    pub slot-to : (k i : ℕ) → rises key (list_to k) ≡ true → i < k → slot_with key (list_to k) (key (at i)) ≡ suc i
    slot-to k i up h =
        let (new, e) = cut-to k i h in
        ap (λ (l : List A). slot_with key l (key (at i))) e ∙ slot-number key new (at i) (list_to i) (subst (λ (l : List A). rises key l ≡ true) e up) ∙ ap suc (length_to i)

    -- the words of a column that holds the keys rise, exactly if the keys do
    module _ (l : List ℕ) (keys : (i : ℕ) → get_or l i 0 ≡ key (at i)) where
      top_to : (k : ℕ) → top_of key (list_to k) ≡ before l k
      unfolding top_of list_to before
      top_to zero = refl
      top_to (suc k) = sym (keys k)

      pub rises-to : (k : ℕ) → Rising k l → rises key (list_to k) ≡ true
      unfolding Rising list_to rises
      rises-to zero h = refl
      rises-to (suc k) h =
          rises-cons key (at k) (list_to k) (let y = h k (omega arith) in omega (arith, top_to k, keys k)) (rises-to k (λ i lt. h i (omega arith)))

      pub to-rises : (k : ℕ) → rises key (list_to k) ≡ true → Rising k l
      unfolding Rising list_to
      to-rises zero up = λ i h. absurd (omega arith)
      to-rises (suc k) up =
          λ i h.
          ⊎_elim (λ e. rw e (omega (arith, rises-first key (at k) (list_to k) up, top_to k, keys k)))
          (λ lt. to-rises k (rises-rest key (at k) (list_to k) up) i lt) (eq-or-lt_of_le (le_of_suc-le-suc h))
