-- Slots over any key: where the element with a key stands in a list, newest first; a list cut there.
use Rattle.std.proofs.Common.{◌≡◌, ℕ, zero, suc, ◌<◌, ◌≤◌, Bool, true, false, cond, ◌||◌, eqb, List, [], ◌∷◌, ◌++◌, map, length, sym, refl, ap, ◌∙◌, ⊎_elim, zero-le, le_of_suc-le-suc, eq-or-lt_of_le, arith, ne_eqb, eqb-true}
use Rattle.std.specs.Prelude.{Option}
use Rattle.std.specs.Prelude.{Some, None}
use Rattle.rows.specs.Lists.{first_with, rises, member, each, slot_with}
use Rattle.rows.specs.vocabulary.Slots.{Within, found_slot}
use Rattle.rows.proofs.Bools.{false_of, true_of, clash, and_l, and_r, eqb-sym, eqb-sym-f, eqb-self, member-here, member-there}
use Rattle.rows.proofs.Keyed.{older_of, first_key, rises-rest, rises-older, rises-range}

-- ---- a look-up's answer as a slot plus 1
pub found_at : {r : Option ℕ} (s i : ℕ) → r ≡ found_slot s → r ≡ Some i → s ≡ suc i
unfolding found_slot
found_at zero i d e = cc
found_at (suc s) i d e = ap suc (cc)

pub found_nothing : {r : Option ℕ} (s : ℕ) → r ≡ found_slot s → r ≡ None → s ≡ 0
unfolding found_slot
found_nothing zero d e = refl
found_nothing (suc s) d e = cc

pub at-below : (k : ℕ) (r : Option ℕ) (i : ℕ) → Within k r → r ≡ Some i → i < k
unfolding Within
at-below k (Some j) i h e = let same : j ≡ i = cc in omega arith
at-below k None i h e = let z : ◌≡◌ {A = ℕ} 0 1 = cc in absurd (omega arith)

module _ {A : Type 0} (key : A → ℕ) where
  -- ---- the slot of a key, over any list
  pub slot-le : (xs : List A) (n : ℕ) → slot_with key xs n ≤ length xs
  unfolding slot_with
  slot-le [] n = zero-le
  slot-le (x ∷ xs) n = pick (slot-le xs n) (eqb (key x) n)
    where
      pick : slot_with key xs n ≤ length xs → (b : Bool) → cond b (suc (length xs)) (slot_with key xs n) ≤ suc (length xs)
      pick h true = omega arith
      pick h false = omega arith

  -- it is as many as the older elements, plus 1
  pub slot-there : (xs : List A) (n : ℕ) → member n (map key xs) ≡ true → slot_with key xs n ≡ suc (length (older_of key xs n))
  unfolding slot_with member older_of
  slot-there [] n t = clash t refl
  slot-there (x ∷ xs) n t = pick (slot-there xs n) (eqb (key x) n) refl t
    where
      pick : (member n (map key xs) ≡ true → slot_with key xs n ≡ suc (length (older_of key xs n))) → (b : Bool) → eqb (key x) n ≡ b → eqb n (key x) || member n (map key xs) ≡ true
          → cond b (suc (length xs)) (slot_with key xs n) ≡ suc (length (cond b xs (older_of key xs n)))
      pick ih true q t = refl
      pick ih false q t = ih (rw (eqb-sym-f (key x) n q) at t)

  pub none-slot : (xs : List A) (n : ℕ) → member n (map key xs) ≡ false → slot_with key xs n ≡ 0
  unfolding slot_with member
  none-slot [] n t = refl
  none-slot (x ∷ xs) n t = pick (none-slot xs n) (eqb (key x) n) refl t
    where
      pick : (member n (map key xs) ≡ false → slot_with key xs n ≡ 0) → (b : Bool) → eqb (key x) n ≡ b → eqb n (key x) || member n (map key xs) ≡ false
          → cond b (suc (length xs)) (slot_with key xs n) ≡ 0
      pick ih true q t = clash (ap (λ (b : Bool). b || member n (map key xs)) (eqb-sym n (key x) ∙ q)) t
      pick ih false q t = ih (rw (eqb-sym-f (key x) n q) at t)

  pub slot-none : (xs : List A) (n : ℕ) → slot_with key xs n ≡ 0 → member n (map key xs) ≡ false
  slot-none xs n e = false_of (member n (map key xs)) (λ t. omega (arith, slot-there xs n t))

  pub slot-member : (xs : List A) (n i : ℕ) → slot_with key xs n ≡ suc i → member n (map key xs) ≡ true
  slot-member xs n i e = true_of (member n (map key xs)) (λ t. omega (arith, none-slot xs n t))

  pub slot-older : (xs : List A) (n i : ℕ) → slot_with key xs n ≡ suc i → length (older_of key xs n) ≡ i
  slot-older xs n i e = omega (arith, slot-there xs n (slot-member xs n i e))

  -- what is found at a slot
  pub slot-found : (none : A) (xs : List A) (n i : ℕ) → slot_with key xs n ≡ suc i → (member n (map key xs) ≡ true) × (key (first_with key none xs n) ≡ n) × (i < length xs)
  slot-found none xs n i e =
      let t = slot-member xs n i e in
      (t, first_key key none xs n t, omega (arith, slot-le xs n))

  -- ---- a list cut at an element
  -- the elements newer than the first with key n
  unfoldable pub newer_of : List A → ℕ → List A
  newer_of [] n = []
  newer_of (x ∷ xs) n = cond (eqb (key x) n) [] (x ∷ newer_of xs n)

  pub cut-first : (none : A) (xs : List A) (n : ℕ) → member n (map key xs) ≡ true → xs ≡ newer_of xs n ++ (first_with key none xs n ∷ older_of key xs n)
  unfolding newer_of first_with older_of member
  cut-first none [] n t = clash t refl
  cut-first none (x ∷ xs) n t = pick (cut-first none xs n) (eqb (key x) n) refl t
    where
      pick : (member n (map key xs) ≡ true → xs ≡ newer_of xs n ++ (first_with key none xs n ∷ older_of key xs n)) → (b : Bool) → eqb (key x) n ≡ b → eqb n (key x) || member n (map key xs) ≡ true
          → x ∷ xs ≡ cond b [] (x ∷ newer_of xs n) ++ (cond b x (first_with key none xs n) ∷ cond b xs (older_of key xs n))
      pick ih true q t = refl
      pick ih false q t = ap (λ (l : List A). x ∷ l) (ih (rw (eqb-sym-f (key x) n q) at t))

  member-after : (new old : List A) (n : ℕ) → member n (map key old) ≡ true → member n (map key (new ++ old)) ≡ true
  member-after [] old n t = t
  member-after (x ∷ new) old n t = member-there n (key x) (map key (new ++ old)) (member-after new old n t)

  pub rises-old : (new old : List A) → rises key (new ++ old) ≡ true → rises key old ≡ true
  rises-old [] old up = up
  rises-old (x ∷ new) old up = rises-old new old (rises-rest key x (new ++ old) up)

  -- ---- keys that rise: slots do not change as newer elements are added
  pub slot_kept : (new old : List A) → rises key (new ++ old) ≡ true → (n : ℕ) → member n (map key old) ≡ true → slot_with key (new ++ old) n ≡ slot_with key old n
  unfolding slot_with
  slot_kept [] old up n t = refl
  slot_kept (x ∷ new) old up n t =
      let lt : n < key x = rises-older key x (new ++ old) up n (member-after new old n t) in
      rw (ne_eqb (key x) n (λ p. omega arith)) (slot_kept new old (rises-rest key x (new ++ old) up) n t)

  -- the element at slot i, counted from the oldest, has its key's slot i
  pub slot-number : (new : List A) (x : A) (old : List A) → rises key (new ++ (x ∷ old)) ≡ true → slot_with key (new ++ (x ∷ old)) (key x) ≡ suc (length old)
  unfolding slot_with
  slot-number new x old up = slot_kept new (x ∷ old) up (key x) (member-here (key x) (map key old)) ∙ rw (eqb-self (key x)) refl

  pub older-slot : (xs : List A) → rises key xs ≡ true → (n : ℕ) → member n (map key xs) ≡ true → (m : ℕ) → m < n → slot_with key (older_of key xs n) m ≡ slot_with key xs m
  unfolding slot_with member older_of
  older-slot [] up n t m h = refl
  older-slot (x ∷ xs) up n t m h = pick (older-slot xs (rises-rest key x xs up) n) (eqb (key x) n) refl t
    where
      pick : (member n (map key xs) ≡ true → (m : ℕ) → m < n → slot_with key (older_of key xs n) m ≡ slot_with key xs m) → (b : Bool) → eqb (key x) n ≡ b → eqb n (key x) || member n (map key xs) ≡ true
          → slot_with key (cond b xs (older_of key xs n)) m ≡ cond (eqb (key x) m) (suc (length xs)) (slot_with key xs m)
      pick ih true q t = let z : key x ≡ n = eqb-true (key x) n q in rw (ne_eqb (key x) m (λ p. omega arith)) refl
      pick ih false q t =
          let u : member n (map key xs) ≡ true = rw (eqb-sym-f (key x) n q) at t in
          let lt : n < key x = rises-older key x xs up n u in
          rw (ne_eqb (key x) m (λ p. omega arith)) (ih u m h)

  -- 0 is no key
  pub slot-zero : (xs : List A) → rises key xs ≡ true → slot_with key xs 0 ≡ 0
  slot-zero xs up = none-slot xs 0 (false_of (member 0 (map key xs)) (λ t. let (lo, hi) = rises-range key xs up 0 t in omega arith))

-- what holds of each element with those older at hand
pub each-cut : {A : Type 0} (F : A → List A → Bool) (new : List A) (x : A) (old : List A) → each F (new ++ (x ∷ old)) ≡ true → F x old ≡ true
unfolding each
each-cut F [] x old e = and_l (F x old) (each F old) e
each-cut F (y ∷ new) x old e = each-cut F new x old (and_r (F y (new ++ (x ∷ old))) (each F (new ++ (x ∷ old))) e)

-- ---- the element at slot i, counted from the oldest
pub record Cut {A : Type 0} (xs : List A) (i : ℕ) : Type 0 where
  pub new : List A
  pub here : A
  pub old : List A
  pub split : xs ≡ new ++ (here ∷ old)
  pub long : length old ≡ i

pub cut_at : {A : Type 0} (xs : List A) (i : ℕ) → i < length xs → Cut xs i
cut_at [] i h = absurd (omega arith)
cut_at (x ∷ xs) i h =
    ⊎_elim (λ e. record { new = []; here = x; old = xs; split = refl; long = sym e })
    (λ lt. let c = cut_at xs i lt in record { new = x ∷ c.new; here = c.here; old = c.old; split = ap (λ l. x ∷ l) c.split; long = c.long })
    (eq-or-lt_of_le (le_of_suc-le-suc h))
