-- Lists told by their keys, kept and trimmed lists: what the files on kept tables use of lists alone.
use Prim.Native.Nat.{ℕ, suc, ◌<◌, ◌≤◌}
use mathlib.Core.Bool.{Bool, true, false, not, cond, ◌&&◌, ◌||◌}
use mathlib.Core.List.{List, [], ◌∷◌, map}
use mathlib.Core.Path.{◌≡◌, refl, sym, ap, ◌∙◌, subst}
use mathlib.Core.Logic.{◌⊎◌, inl, inr}
use lib.Dec.{eqb}
use lib.ListN.{length}
use borrow.Author.Tests.{eqb-true, ne_eqb}
use native.Mathlib.Omega.{arith}
use Rattle.rows.specs.Lists.{filter, any, each, first_with, top_of, rises, member, distinct, some, nonzero}
use Rattle.rows.proofs.Bools.{false_of, clash, and_l, and_r, and_i, not_t, or_r, or_map, eqb-self, some-pos, member-here, member-there}
use Rattle.rows.proofs.Keyed.{rises-rest, rises-first, rises-cons, rises-older, older_of}
use Rattle.rows.proofs.Agree.{first-here, first-older}
use Rattle.rows.proofs.Lists.{member-nonzero}

-- ---- a list with rising keys is told by what look-up finds
module _ {A : Type 0} (key : A → ℕ) where
  module _ (none : A) where
    pub each-of-first : (F : A → List A → Bool) (xs : List A) → rises key xs ≡ true
        → ((n : ℕ) → member n (map key xs) ≡ true → F (first_with key none xs n) (older_of key xs n) ≡ true) → each F xs ≡ true
    unfolding each
    each-of-first F [] e h = refl
    each-of-first F (x ∷ xs) e h =
        and_i (F x xs) (each F xs)
        (ap (λ y. F y xs) (sym (first-here key none x xs))
        ∙ ap (F (first_with key none (x ∷ xs) (key x))) (sym here)
        ∙ h (key x) (member-here (key x) (map key xs)))
        (each-of-first F xs (rises-rest key x xs e) rest)
      where
        here : older_of key (x ∷ xs) (key x) ≡ xs
        here = unfold older_of in rw (eqb-self (key x)) refl

        there : (n : ℕ) → member n (map key xs) ≡ true → older_of key (x ∷ xs) n ≡ older_of key xs n
        there n t = let lt : n < key x = rises-older key x xs e n t in unfold older_of in rw (ne_eqb (key x) n (λ p. omega arith)) refl

        rest : (n : ℕ) → member n (map key xs) ≡ true → F (first_with key none xs n) (older_of key xs n) ≡ true
        rest n t =
            subst (λ ys. F (first_with key none xs n) ys ≡ true) (there n t)
            (subst (λ y. F y (older_of key (x ∷ xs) n) ≡ true) (first-older key none x xs n (rises-older key x xs e n t))
            (h n (member-there n (key x) (map key xs) t)))

    -- one that passes is found
    pub any-first : (P : A → Bool) (xs : List A) → rises key xs ≡ true → any P xs ≡ true
        → (n : ℕ) × (member n (map key xs) ≡ true) × (P (first_with key none xs n) ≡ true)
    unfolding any
    any-first P [] e t = clash t refl
    any-first P (x ∷ xs) e t = pick (any-first P xs (rises-rest key x xs e)) (P x) refl t
      where
        pick : (any P xs ≡ true → (n : ℕ) × (member n (map key xs) ≡ true) × (P (first_with key none xs n) ≡ true))
            → (b : Bool) → P x ≡ b → b || any P xs ≡ true
            → (n : ℕ) × (member n (map key (x ∷ xs)) ≡ true) × (P (first_with key none (x ∷ xs) n) ≡ true)
        pick ih true q t = (key x, member-here (key x) (map key xs), ap P (first-here key none x xs) ∙ q)
        pick ih false q t =
            let (n, m, p) = ih t in
            (n, member-there n (key x) (map key xs) m, ap P (first-older key none x xs n (rises-older key x xs e n m)) ∙ p)

  -- ---- older elements are elements
  pub any-older : (P : A → Bool) (xs : List A) (n : ℕ) → any P (older_of key xs n) ≡ true → any P xs ≡ true
  unfolding any older_of
  any-older P [] n t = t
  any-older P (x ∷ xs) n t = pick (any-older P xs n) (eqb (key x) n) t
    where
      pick : (any P (older_of key xs n) ≡ true → any P xs ≡ true) → (b : Bool) → any P (cond b xs (older_of key xs n)) ≡ true → P x || any P xs ≡ true
      pick ih true t = or_r (P x) (any P xs) t
      pick ih false t = or_r (P x) (any P xs) (ih t)

  -- ---- keys of kept elements
  pub top-member : (xs : List A) → (top_of key xs ≡ 0) ⊎ (member (top_of key xs) (map key xs) ≡ true)
  unfolding top_of
  top-member [] = inl refl
  top-member (x ∷ xs) = inr (member-here (key x) (map key xs))

  pub rises-filter : (p : A → Bool) (xs : List A) → rises key xs ≡ true
      → (rises key (filter p xs) ≡ true) × (top_of key (filter p xs) ≤ top_of key xs)
  unfolding filter top_of
  rises-filter p [] e = (e, omega arith)
  rises-filter p (x ∷ xs) e = pick (rises-filter p xs (rises-rest key x xs e)) (rises-first key x xs e) (p x)
    where
      pick : (rises key (filter p xs) ≡ true) × (top_of key (filter p xs) ≤ top_of key xs) → top_of key xs < key x → (b : Bool)
          → (rises key (cond b (x ∷ filter p xs) (filter p xs)) ≡ true) × (top_of key (cond b (x ∷ filter p xs) (filter p xs)) ≤ key x)
      pick (r, h) lt true = (rises-cons key x (filter p xs) (omega arith) r, omega arith)
      pick (r, h) lt false = (r, omega arith)

-- keys alone tell whether they rise
pub rises-keys : {A : Type 0} (key : A → ℕ) (xs ys : List A) → map key xs ≡ map key ys → rises key xs ≡ rises key ys
unfolding rises top_of
rises-keys key xs ys e = of-keys xs ∙ ap (rises (λ n. n)) e ∙ sym (of-keys ys)
  where
    top-keys : (zs : List _) → top_of (λ n. n) (map key zs) ≡ top_of key zs
    top-keys [] = refl
    top-keys (z ∷ zs) = refl

    of-keys : (zs : List _) → rises key zs ≡ rises (λ n. n) (map key zs)
    of-keys [] = refl
    of-keys (z ∷ zs) = rw (of-keys zs, top-keys zs) refl

-- ---- all, each, length
module _ {A : Type 0} where
  pub length-filter : (p : A → Bool) (xs : List A) → length (filter p xs) ≤ length xs
  unfolding filter
  length-filter p [] = omega arith
  length-filter p (x ∷ xs) = pick (length-filter p xs) (p x)
    where
      pick : length (filter p xs) ≤ length xs → (b : Bool) → length (cond b (x ∷ filter p xs) (filter p xs)) ≤ suc (length xs)
      pick h true = omega arith
      pick h false = omega arith

-- ---- items, of which those that pass the test leave a 0
module _ (t : ℕ → Bool) where
  unfoldable pub trim : List ℕ → List ℕ
  trim is = map (λ e. cond (t e) 0 e) is

  pub member-trim : (is : List ℕ) (n : ℕ) → some n ≡ true → member n (trim is) ≡ member n is && not (t n)
  unfolding trim member
  member-trim [] n h = refl
  member-trim (x ∷ is) n h = pick (member-trim is n h) (t x) refl (eqb n x) refl
    where
      zero-other : eqb n 0 ≡ false
      zero-other = let lt : 0 < n = some-pos n h in ne_eqb n 0 (λ p. omega arith)

      none : (a : Bool) → t n ≡ true → a && not (t n) ≡ false
      none true q = rw q refl
      none false q = refl

      pick : member n (trim is) ≡ member n is && not (t n) → (b : Bool) → t x ≡ b → (c : Bool) → eqb n x ≡ c
          → eqb n (cond b 0 x) || member n (trim is) ≡ (c || member n is) && not (t n)
      pick ih true p true q = let tn : t n ≡ true = ap t (eqb-true n x q) ∙ p in rw (zero-other, ih, none (member n is) tn, tn) refl
      pick ih true p false q = rw zero-other ih
      pick ih false p true q = rw (q, ap t (eqb-true n x q) ∙ p) refl
      pick ih false p false q = rw q ih

  -- a test that 0 fails
  pub any-trim : (P : ℕ → Bool) → P 0 ≡ false → (is : List ℕ) → any P (trim is) ≡ true → any P is ≡ true
  unfolding trim any
  any-trim P z [] e = e
  any-trim P z (x ∷ is) e = pick (any-trim P z is) (t x) e
    where
      pick : (any P (trim is) ≡ true → any P is ≡ true) → (b : Bool) → P (cond b 0 x) || any P (trim is) ≡ true → P x || any P is ≡ true
      pick ih true e = or_r (P x) (any P is) (ih (rw z at e))
      pick ih false e = or_map (P x) (any P (trim is)) (any P is) ih e

pub distinct-trim : (t : ℕ → Bool) (is : List ℕ) → distinct (nonzero is) ≡ true → distinct (nonzero (trim t is)) ≡ true
unfolding trim nonzero filter distinct some
distinct-trim t [] e = e
distinct-trim t (x ∷ is) e = pick (distinct-trim t is) (some x) refl e (t x)
  where
    fresh : member x (nonzero is) ≡ false → member x (nonzero (trim t is)) ≡ false
    fresh h = false_of _ (λ u.
        let v : some x && member x (trim t is) ≡ true = sym (member-nonzero (trim t is) x) ∙ u in
        let sx : some x ≡ true = and_l (some x) (member x (trim t is)) v in
        let w : member x is && not (t x) ≡ true = sym (member-trim t is x sx) ∙ and_r (some x) (member x (trim t is)) v in
        clash (member-nonzero is x ∙ and_i (some x) (member x is) sx (and_l (member x is) (not (t x)) w)) h)

    pick : (distinct (nonzero is) ≡ true → distinct (nonzero (trim t is)) ≡ true)
        → (a : Bool) → some x ≡ a → distinct (cond a (x ∷ nonzero is) (nonzero is)) ≡ true → (b : Bool)
        → distinct (nonzero (cond b 0 x ∷ trim t is)) ≡ true
    pick ih true p e true = ih (and_r (not (member x (nonzero is))) (distinct (nonzero is)) e)
    pick ih true p e false =
        rw (p, ih (and_r (not (member x (nonzero is))) (distinct (nonzero is)) e), fresh (not_t _ (and_l (not (member x (nonzero is))) (distinct (nonzero is)) e))) refl
    pick ih false p e true = ih e
    pick ih false p e false = rw p (ih e)
