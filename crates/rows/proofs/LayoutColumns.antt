-- Words in padded columns, laid one after the other: their lengths, and what stands where. Over any number of slots and any words.
use Rattle.std.proofs.Common.{◌≡◌, ℕ, zero, suc, ◌+◌, ◌*◌, ◌<◌, ◌≤◌, true, eqb, List, [], ◌∷◌, ◌++◌, length, get_or, take, drop, sym, refl, ap, ◌∙◌, subst, ⊎_elim, zero-le, le_of_suc-le-suc, not-suc-le-zero, mul-le-mul_right, suc-mul, eq-or-lt_of_le, arith, length-append, length-drop, length-take-le, get_or-drop, get_or-take, get_or-append-add, ext_get_or, eqb-true}
use mathlib.Core.Bool.{false≢true}
use lib.ListN.{get_or-append}
use lib.Seq.{get_or_at}
use Rattle.rows.specs.Lists.{all, rises, pad, laid, some, same_list}
use Rattle.rows.specs.Layout.{leading}
use Rattle.rows.proofs.Bools.{and_l, and_r, and_i, pos-some, eqb-self}
use Rattle.rows.proofs.Keyed.{rises-first, rises-rest}
use Rattle.rows.proofs.Lists.{all_append}

-- ---- pad
module _ {A : Type 0} (d : A) where
  pub length-pad : (n : ℕ) (l : List A) → length l ≤ n → length (pad d n l) ≡ n
  unfolding pad
  length-pad zero [] h = refl
  length-pad zero (x ∷ xs) h = absurd (not-suc-le-zero h)
  length-pad (suc n) [] h = ap suc (length-pad n [] zero-le)
  length-pad (suc n) (x ∷ xs) h = ap suc (length-pad n xs (le_of_suc-le-suc h))

  pub get_d-pad : (n : ℕ) (l : List A) (i : ℕ) → get_or (pad d n l) i d ≡ get_or l i d
  unfolding pad
  get_d-pad zero l i = refl
  get_d-pad (suc n) [] zero = refl
  get_d-pad (suc n) [] (suc i) = get_d-pad n [] i
  get_d-pad (suc n) (x ∷ xs) zero = refl
  get_d-pad (suc n) (x ∷ xs) (suc i) = get_d-pad n xs i

-- what follows n words
pub get_d_after : (a l : List ℕ) (n i : ℕ) → length a ≡ n → get_or (a ++ l) (n + i) 0 ≡ get_or l i 0
get_d_after a l n i e = rw (← e) (get_or-append-add a l i 0)

-- a run of k words of t, known word by word
run_is : (a k : ℕ) (t l : List ℕ) → length l ≤ k → a + k ≤ length t → ((i : ℕ) → i < k → get_or t (a + i) 0 ≡ get_or l i 0) → take k (drop a t) ≡ pad 0 k l
run_is a k t l few room at =
    let long : length (take k (drop a t)) ≡ k = length-take-le k (drop a t) (omega (arith, length-drop a t)) in
    ext_get_or 0 (take k (drop a t)) (pad 0 k l) (long ∙ sym (length-pad 0 k l few))
    (λ i h.
    let i<k : i < k = omega arith in
    get_or-take k (drop a t) i 0 i<k ∙ get_or-drop a t i 0 ∙ at i i<k ∙ sym (get_d-pad 0 k l i))

-- ---- laid
module _ {A : Type 0} (f : A → List A → ℕ) where
  pub length-laid : (xs : List A) → length (laid f xs) ≡ length xs
  unfolding laid
  length-laid [] = refl
  length-laid (x ∷ xs) = omega (arith, length-append (laid f xs) (f x xs ∷ []), length-laid xs)

  -- the word of an element stands where the older ones end
  pub laid-at : (new : List A) (x : A) (old : List A) → get_or (laid f (new ++ (x ∷ old))) (length old) 0 ≡ f x old
  unfolding laid
  laid-at [] x old = get_or_at (laid f old) (f x old) [] 0 (length old) (length-laid old)
  laid-at (y ∷ new) x old =
      get_or-append (laid f (new ++ (x ∷ old))) (f y (new ++ (x ∷ old)) ∷ []) 0 (length old) (omega (arith, length-laid (new ++ (x ∷ old)), length-append new (x ∷ old)))
      ∙ laid-at new x old

-- ---- columns
unfoldable pub columns : {A : Type 0} → ℕ → (ℕ → A → List A → ℕ) → ℕ → List A → List ℕ
columns k w zero xs = []
columns k w (suc c) xs = columns k w c xs ++ pad 0 k (laid (w c) xs)

module _ {A : Type 0} (k : ℕ) (w : ℕ → A → List A → ℕ) (xs : List A) (few : length xs ≤ k) where
  length-column : (c : ℕ) → length (pad 0 k (laid (w c) xs)) ≡ k
  length-column c = length-pad 0 k (laid (w c) xs) (omega (arith, length-laid (w c) xs))

  pub length-columns : (m : ℕ) → length (columns k w m xs) ≡ m * k
  unfolding columns
  length-columns zero = omega arith
  length-columns (suc c) =
      length-append (columns k w c xs) (pad 0 k (laid (w c) xs)) ∙ omega (arith, length-columns c, length-column c, suc-mul c k)

  pub columns-at : (m c i : ℕ) → c < m → i < k → get_or (columns k w m xs) (c * k + i) 0 ≡ get_or (laid (w c) xs) i 0
  unfolding columns
  columns-at zero c i h hi = absurd (not-suc-le-zero h)
  columns-at (suc m) c i h hi =
      ⊎_elim
      (λ e. subst (λ (n : ℕ). get_or (columns k w m xs ++ pad 0 k (laid (w m) xs)) (n * k + i) 0 ≡ get_or (laid (w n) xs) i 0) (sym e)
      (get_d_after (columns k w m xs) (pad 0 k (laid (w m) xs)) (m * k) i (length-columns m) ∙ get_d-pad 0 k (laid (w m) xs) i))
      (λ lt.
      get_or-append (columns k w m xs) (pad 0 k (laid (w m) xs)) 0 (c * k + i) (omega (arith, length-columns m, mul-le-mul_right k lt, suc-mul c k))
      ∙ columns-at m c i lt hi) (eq-or-lt_of_le (le_of_suc-le-suc h))

-- ---- the slots in use
leading-pad : (k : ℕ) (ws : List ℕ) → length ws ≤ k → all some ws ≡ true → leading (pad 0 k ws) ≡ length ws
unfolding leading pad all some
leading-pad zero [] h e = refl
leading-pad zero (w ∷ ws) h e = absurd (not-suc-le-zero h)
leading-pad (suc k) [] h e = refl
leading-pad (suc k) (w ∷ ws) h e =
    rw (and_l (some w) (all some ws) e) (ap suc (leading-pad k ws (le_of_suc-le-suc h) (and_r (some w) (all some ws) e)))

-- keys that rise are above 0, so each key laid out counts as a slot in use
keys-lead : {A : Type 0} (key : A → ℕ) (xs : List A) → rises key xs ≡ true → all some (laid (λ x older. key x) xs) ≡ true
unfolding laid all
keys-lead key [] e = refl
keys-lead key (x ∷ xs) e =
    let h = rises-first key x xs e in
    all_append some (laid (λ x older. key x) xs) (key x ∷ []) (keys-lead key xs (rises-rest key x xs e)) (and_i (some (key x)) true (pos-some (key x) (omega arith)) refl)

pub slots-in-use : {A : Type 0} (key : A → ℕ) (xs : List A) (a k : ℕ) (t : List ℕ) → rises key xs ≡ true → length xs ≤ k → a + k ≤ length t
    → ((i : ℕ) → i < k → get_or t (a + i) 0 ≡ get_or (laid (λ x older. key x) xs) i 0) → leading (take k (drop a t)) ≡ length xs
slots-in-use key xs a k t up few room at =
    let long : length (laid (λ x older. key x) xs) ≡ length xs = length-laid (λ x older. key x) xs in
    let fits : length (laid (λ x older. key x) xs) ≤ k = omega arith in
    ap leading (run_is a k t (laid (λ x older. key x) xs) fits room at) ∙ leading-pad k (laid (λ x older. key x) xs) fits (keys-lead key xs up) ∙ long

-- ---- the same words
pub same-list : (xs ys : List ℕ) → same_list xs ys ≡ true → xs ≡ ys
unfolding same_list
same-list [] [] e = refl
same-list [] (y ∷ ys) e = absurd (false≢true e)
same-list (x ∷ xs) [] e = absurd (false≢true e)
same-list (x ∷ xs) (y ∷ ys) e = λ i. eqb-true x y (and_l (eqb x y) (same_list xs ys) e) i ∷ same-list xs ys (and_r (eqb x y) (same_list xs ys) e) i

pub list_same : (xs : List ℕ) → same_list xs xs ≡ true
unfolding same_list
list_same [] = refl
list_same (x ∷ xs) = and_i (eqb x x) (same_list xs xs) (eqb-self x) (list_same xs)
