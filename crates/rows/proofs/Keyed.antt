-- Lists of things with a key, newest first: look-up by `first_with`, keys that rise, the older elements. For rows, requests and notes alike.
use Rattle.std.proofs.Common.{◌≡◌, ℕ, ◌<◌, ◌≤◌, Bool, true, false, cond, ◌&&◌, ◌||◌, eqb, ltb, List, [], ◌∷◌, map, sym, refl, ap, ◌∙◌, arith, ltb-true, lt-ltb, ne_eqb, eqb-true}
use Rattle.rows.specs.Lists.{filter, all, each, first_with, top_of, rises, member}
use Rattle.rows.proofs.Bools.{false_of, clash, and_l, and_r, and_i, or_l, or_r, or-fl, or-fr, eqb-sym-f, eqb-sym}

module _ {A : Type 0} (key : A → ℕ) where
  -- ---- look-up
  module _ (none : A) where
    -- what is found has the key
    pub first_key : (xs : List A) (n : ℕ) → member n (map key xs) ≡ true → key (first_with key none xs n) ≡ n
    unfolding first_with member
    first_key [] n t = clash t refl
    first_key (x ∷ xs) n t = pick (first_key xs n) (eqb (key x) n) refl t
      where
        pick : (member n (map key xs) ≡ true → key (first_with key none xs n) ≡ n) → (b : Bool) → eqb (key x) n ≡ b → eqb n (key x) || member n (map key xs) ≡ true
            → key (cond b x (first_with key none xs n)) ≡ n
        pick ih true q t = eqb-true (key x) n q
        pick ih false q t = ih (rw (eqb-sym-f (key x) n q) at t)

    -- nothing is found where the key is not there
    pub first-none : (xs : List A) (n : ℕ) → member n (map key xs) ≡ false → first_with key none xs n ≡ none
    unfolding first_with member
    first-none [] n t = refl
    first-none (x ∷ xs) n t =
        rw (eqb-sym-f n (key x) (or-fl (eqb n (key x)) (member n (map key xs)) t)) (first-none xs n (or-fr (eqb n (key x)) (member n (map key xs)) t))

    -- a test that fails on none and passes on what is found: the key is there
    pub first-there : (P : A → Bool) → P none ≡ false → (xs : List A) (n : ℕ) → P (first_with key none xs n) ≡ true → member n (map key xs) ≡ true
    unfolding first_with member
    first-there P z [] n t = clash t z
    first-there P z (x ∷ xs) n t = pick (first-there P z xs n) (eqb (key x) n) refl t
      where
        pick : (P (first_with key none xs n) ≡ true → member n (map key xs) ≡ true) → (b : Bool) → eqb (key x) n ≡ b → P (cond b x (first_with key none xs n)) ≡ true
            → eqb n (key x) || member n (map key xs) ≡ true
        pick ih true q t = or_l (eqb n (key x)) (member n (map key xs)) (eqb-sym n (key x) ∙ q)
        pick ih false q t = or_r (eqb n (key x)) (member n (map key xs)) (ih t)

    -- what holds of all holds of what is found
    pub all_first : (P : A → Bool) (xs : List A) (n : ℕ) → all P xs ≡ true → member n (map key xs) ≡ true → P (first_with key none xs n) ≡ true
    unfolding first_with member all
    all_first P [] n e t = clash t refl
    all_first P (x ∷ xs) n e t = pick (all_first P xs n (and_r (P x) (all P xs) e)) (eqb (key x) n) refl t
      where
        pick : (member n (map key xs) ≡ true → P (first_with key none xs n) ≡ true) → (b : Bool) → eqb (key x) n ≡ b → eqb n (key x) || member n (map key xs) ≡ true
            → P (cond b x (first_with key none xs n)) ≡ true
        pick ih true q t = and_l (P x) (all P xs) e
        pick ih false q t = ih (rw (eqb-sym-f (key x) n q) at t)

    -- a change of the elements that leaves their keys
    pub first-map : (g : A → A) → ((x : A) → key (g x) ≡ key x) → g none ≡ none → (xs : List A) (n : ℕ) → first_with key none (map g xs) n ≡ g (first_with key none xs n)
    unfolding first_with
    first-map g k z [] n = sym z
    first-map g k z (x ∷ xs) n = rw (k x) (pick (first-map g k z xs n) (eqb (key x) n))
      where
        pick : first_with key none (map g xs) n ≡ g (first_with key none xs n) → (b : Bool) → cond b (g x) (first_with key none (map g xs) n) ≡ g (cond b x (first_with key none xs n))
        pick ih true = refl
        pick ih false = ih

    -- the elements kept by a test of their keys
    pub first-filter : (t : ℕ → Bool) (xs : List A) (n : ℕ) → t n ≡ true → first_with key none (filter (λ x. t (key x)) xs) n ≡ first_with key none xs n
    unfolding first_with filter
    first-filter t [] n h = refl
    first-filter t (x ∷ xs) n h = pick (first-filter t xs n h) (t (key x)) refl (eqb (key x) n) refl
      where
        pick : first_with key none (filter (λ x. t (key x)) xs) n ≡ first_with key none xs n → (b : Bool) → t (key x) ≡ b → (c : Bool) → eqb (key x) n ≡ c
            → first_with key none (cond b (x ∷ filter (λ x. t (key x)) xs) (filter (λ x. t (key x)) xs)) n ≡ cond c x (first_with key none xs n)
        pick ih true p true q = rw q refl
        pick ih true p false q = rw q ih
        pick ih false p true q = clash (ap t (eqb-true (key x) n q) ∙ h) p
        pick ih false p false q = ih

  -- ---- keys
  pub keys-map : (g : A → A) → ((x : A) → key (g x) ≡ key x) → (xs : List A) → map key (map g xs) ≡ map key xs
  keys-map g k [] = refl
  keys-map g k (x ∷ xs) = rw (k x, keys-map g k xs) refl

  pub keys_filter : (t : ℕ → Bool) (xs : List A) (n : ℕ) → member n (map key (filter (λ x. t (key x)) xs)) ≡ member n (map key xs) && t n
  unfolding member filter
  keys_filter t [] n = refl
  keys_filter t (x ∷ xs) n = pick (keys_filter t xs n) (t (key x)) refl (eqb n (key x)) refl
    where
      none_left : (a b : Bool) → b ≡ false → a && b ≡ b
      none_left true b q = refl
      none_left false b q = sym q

      pick : member n (map key (filter (λ x. t (key x)) xs)) ≡ member n (map key xs) && t n → (b : Bool) → t (key x) ≡ b → (c : Bool) → eqb n (key x) ≡ c
          → member n (map key (cond b (x ∷ filter (λ x. t (key x)) xs) (filter (λ x. t (key x)) xs))) ≡ (c || member n (map key xs)) && t n
      pick ih true p true q = rw q (sym (ap t (eqb-true n (key x) q) ∙ p))
      pick ih true p false q = rw q ih
      pick ih false p true q = ih ∙ none_left (member n (map key xs)) (t n) (ap t (eqb-true n (key x) q) ∙ p)
      pick ih false p false q = ih

  -- ---- keys that rise
  pub rises-rest : (x : A) (xs : List A) → rises key (x ∷ xs) ≡ true → rises key xs ≡ true
  unfolding rises
  rises-rest x xs e = and_r (ltb (top_of key xs) (key x)) (rises key xs) e

  pub rises-first : (x : A) (xs : List A) → rises key (x ∷ xs) ≡ true → top_of key xs < key x
  unfolding rises
  rises-first x xs e = ltb-true (top_of key xs) (key x) (and_l (ltb (top_of key xs) (key x)) (rises key xs) e)

  pub rises-cons : (x : A) (xs : List A) → top_of key xs < key x → rises key xs ≡ true → rises key (x ∷ xs) ≡ true
  unfolding rises
  rises-cons x xs h e = and_i (ltb (top_of key xs) (key x)) (rises key xs) (lt-ltb (top_of key xs) (key x) h) e

  -- every key is above 0 and at most the first
  pub rises-range : (xs : List A) → rises key xs ≡ true → (n : ℕ) → member n (map key xs) ≡ true → (0 < n) × (n ≤ top_of key xs)
  unfolding member top_of
  rises-range [] e n t = clash t refl
  rises-range (x ∷ xs) e n t = pick (rises-first x xs e) (rises-range xs (rises-rest x xs e) n) (eqb n (key x)) refl t
    where
      pick : top_of key xs < key x → (member n (map key xs) ≡ true → (0 < n) × (n ≤ top_of key xs)) → (b : Bool) → eqb n (key x) ≡ b → b || member n (map key xs) ≡ true → (0 < n) × (n ≤ key x)
      pick h ih true q t = let z : n ≡ key x = eqb-true n (key x) q in (omega arith, omega arith)
      pick h ih false q t = let (lo, hi) = ih t in (lo, omega arith)

  -- the older keys are less
  pub rises-older : (x : A) (xs : List A) → rises key (x ∷ xs) ≡ true → (n : ℕ) → member n (map key xs) ≡ true → n < key x
  rises-older x xs e n t = let (lo, hi) = rises-range xs (rises-rest x xs e) n t in let h = rises-first x xs e in omega arith

  pub rises-fresh : (x : A) (xs : List A) → rises key (x ∷ xs) ≡ true → member (key x) (map key xs) ≡ false
  rises-fresh x xs e = false_of _ (λ t. let h = rises-older x xs e (key x) t in omega arith)

  pub rises-map : (g : A → A) → ((x : A) → key (g x) ≡ key x) → (xs : List A) → rises key (map g xs) ≡ rises key xs
  unfolding rises top_of
  rises-map g k [] = refl
  rises-map g k (x ∷ xs) = rw (k x, rises-map g k xs, top-map xs) refl
    where
      top-map : (ys : List A) → top_of key (map g ys) ≡ top_of key ys
      top-map [] = refl
      top-map (y ∷ ys) = k y

  -- ---- the elements older than the first with key n
  unfoldable pub older_of : List A → ℕ → List A
  older_of [] n = []
  older_of (x ∷ xs) n = cond (eqb (key x) n) xs (older_of xs n)

  -- what holds of each element with those older at hand
  pub each_first : (none : A) (F : A → List A → Bool) (xs : List A) → each F xs ≡ true → (n : ℕ) → member n (map key xs) ≡ true → F (first_with key none xs n) (older_of xs n) ≡ true
  unfolding first_with member each older_of
  each_first none F [] e n t = clash t refl
  each_first none F (x ∷ xs) e n t = pick (each_first none F xs (and_r (F x xs) (each F xs) e) n) (eqb (key x) n) refl t
    where
      pick : (member n (map key xs) ≡ true → F (first_with key none xs n) (older_of xs n) ≡ true) → (b : Bool) → eqb (key x) n ≡ b → eqb n (key x) || member n (map key xs) ≡ true
          → F (cond b x (first_with key none xs n)) (cond b xs (older_of xs n)) ≡ true
      pick ih true q t = and_l (F x xs) (each F xs) e
      pick ih false q t = ih (rw (eqb-sym-f (key x) n q) at t)

  -- an older element is found among the older ones as in the whole list
  pub older-first : (none : A) (xs : List A) → rises key xs ≡ true → (n : ℕ) → member n (map key xs) ≡ true → (m : ℕ) → m < n → first_with key none (older_of xs n) m ≡ first_with key none xs m
  unfolding first_with member older_of
  older-first none [] e n t m h = refl
  older-first none (x ∷ xs) e n t m h = pick (older-first none xs (rises-rest x xs e) n) (eqb (key x) n) refl t
    where
      pick : (member n (map key xs) ≡ true → (m : ℕ) → m < n → first_with key none (older_of xs n) m ≡ first_with key none xs m)
          → (b : Bool) → eqb (key x) n ≡ b → eqb n (key x) || member n (map key xs) ≡ true
          → first_with key none (cond b xs (older_of xs n)) m ≡ cond (eqb (key x) m) x (first_with key none xs m)
      pick ih true q t = let z : key x ≡ n = eqb-true (key x) n q in rw (ne_eqb (key x) m (λ p. omega arith)) refl
      pick ih false q t =
          let u : member n (map key xs) ≡ true = rw (eqb-sym-f (key x) n q) at t in
          let lt : n < key x = rises-older x xs e n u in
          rw (ne_eqb (key x) m (λ p. omega arith)) (ih u m h)

  pub older-key : (xs : List A) → rises key xs ≡ true → (n m : ℕ) → member n (map key xs) ≡ true → member m (map key (older_of xs n)) ≡ true → (m < n) × (member m (map key xs) ≡ true)
  unfolding member older_of
  older-key [] e n m t u = clash t refl
  older-key (x ∷ xs) e n m t u = pick (older-key xs (rises-rest x xs e) n m) (eqb (key x) n) refl t u
    where
      pick : (member n (map key xs) ≡ true → member m (map key (older_of xs n)) ≡ true → (m < n) × (member m (map key xs) ≡ true))
          → (b : Bool) → eqb (key x) n ≡ b → eqb n (key x) || member n (map key xs) ≡ true
          → member m (map key (cond b xs (older_of xs n))) ≡ true → (m < n) × (eqb m (key x) || member m (map key xs) ≡ true)
      pick ih true q t u =
          let z : key x ≡ n = eqb-true (key x) n q in
          let lt : m < key x = rises-older x xs e m u in (omega arith, or_r (eqb m (key x)) (member m (map key xs)) u)
      pick ih false q t u = let (lt, w) = ih (rw (eqb-sym-f (key x) n q) at t) u in (lt, or_r (eqb m (key x)) (member m (map key xs)) w)
