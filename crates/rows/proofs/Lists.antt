-- Laws of lists of any elements: tests of all and of any along map, append, set and filter; what is a member.
use Rattle.std.proofs.Common.{◌≡◌, ℕ, zero, suc, Bool, true, false, cond, not, ◌&&◌, ◌||◌, eqb, List, [], ◌∷◌, ◌++◌, map, get_or, set, replicate, sym, refl, ap, ◌∙◌, eqb-true}
use Rattle.rows.specs.Lists.{filter, any, all, member, distinct, some, nonzero}
use Rattle.rows.proofs.Bools.{false_of, clash, and_l, and_r, and_i, and-rf, and-true, not_t, or_l, or_r, or-fl, or-fr, or_map, member-here, member-there}

module _ {A : Type 0} where
  pub all_append : (f : A → Bool) (xs ys : List A) → all f xs ≡ true → all f ys ≡ true → all f (xs ++ ys) ≡ true
  unfolding all
  all_append f [] ys e d = d
  all_append f (x ∷ xs) ys e d = and_i (f x) (all f (xs ++ ys)) (and_l (f x) (all f xs) e) (all_append f xs ys (and_r (f x) (all f xs) e) d)

  pub filter-append : (f : A → Bool) (xs ys : List A) → filter f (xs ++ ys) ≡ filter f xs ++ filter f ys
  unfolding filter
  filter-append f [] ys = refl
  filter-append f (x ∷ xs) ys = rw (filter-append f xs ys) (pick (f x))
    where
      pick : (b : Bool) → cond b (x ∷ filter f xs ++ filter f ys) (filter f xs ++ filter f ys) ≡ cond b (x ∷ filter f xs) (filter f xs) ++ filter f ys
      pick true = refl
      pick false = refl

  pub all_map : {B : Type 0} (f : B → Bool) (g : A → B) (xs : List A) → all f (map g xs) ≡ all (λ x. f (g x)) xs
  unfolding all
  all_map f g [] = refl
  all_map f g (x ∷ xs) = ap (λ b. f (g x) && b) (all_map f g xs)

  pub all_set : (f : A → Bool) (xs : List A) (i : ℕ) (x : A) → all f xs ≡ true → f x ≡ true → all f (set xs i x) ≡ true
  unfolding all
  all_set f [] i x e h = refl
  all_set f (y ∷ xs) zero x e h = and_i (f x) (all f xs) h (and_r (f y) (all f xs) e)
  all_set f (y ∷ xs) (suc i) x e h = and_i (f y) (all f (set xs i x)) (and_l (f y) (all f xs) e) (all_set f xs i x (and_r (f y) (all f xs) e) h)

  -- what holds of all, and of what stands for none
  pub all_get_d : (f : A → Bool) (xs : List A) → all f xs ≡ true → (i : ℕ) (d : A) → f d ≡ true → f (get_or xs i d) ≡ true
  unfolding all
  all_get_d f [] e i d z = z
  all_get_d f (x ∷ xs) e zero d z = and_l (f x) (all f xs) e
  all_get_d f (x ∷ xs) e (suc i) d z = all_get_d f xs (and_r (f x) (all f xs) e) i d z

  pub none-all : (f : A → Bool) (xs : List A) → any f xs ≡ false → all (λ x. not (f x)) xs ≡ true
  unfolding any all
  none-all f [] e = refl
  none-all f (x ∷ xs) e = and_i (not (f x)) (all (λ x. not (f x)) xs) (ap not (or-fl (f x) (any f xs) e)) (none-all f xs (or-fr (f x) (any f xs) e))

  -- a list of one value has it everywhere
  pub same-everywhere : (d : A) (n k : ℕ) → get_or (replicate n d) k d ≡ d
  same-everywhere d zero k = refl
  same-everywhere d (suc n) zero = refl
  same-everywhere d (suc n) (suc k) = same-everywhere d n k

  -- a change that changes nothing
  pub map_same : (g : A → A) → ((x : A) → g x ≡ x) → (xs : List A) → map g xs ≡ xs
  map_same g h [] = refl
  map_same g h (x ∷ xs) = rw (h x, map_same g h xs) refl

  -- ---- filter
  pub filter_passes : (f : A → Bool) (xs : List A) → all f (filter f xs) ≡ true
  unfolding all filter
  filter_passes f [] = refl
  filter_passes f (x ∷ xs) = pick (filter_passes f xs) (f x) refl
    where
      pick : all f (filter f xs) ≡ true → (b : Bool) → f x ≡ b → all f (cond b (x ∷ filter f xs) (filter f xs)) ≡ true
      pick ih true q = and_i (f x) (all f (filter f xs)) q ih
      pick ih false q = ih

  -- tests that agree on what all are
  pub filter_same : (p f g : A → Bool) → ((a : A) → p a ≡ true → f a ≡ g a) → (xs : List A) → all p xs ≡ true → filter f xs ≡ filter g xs
  unfolding all filter
  filter_same p f g h [] e = refl
  filter_same p f g h (x ∷ xs) e = rw (h x (and_l (p x) (all p xs) e), filter_same p f g h xs (and_r (p x) (all p xs) e)) refl

  -- two tests, one after the other
  pub filter-filter : (p q r : A → Bool) → ((a : A) → r a ≡ q a && p a) → (xs : List A) → filter p (filter q xs) ≡ filter r xs
  unfolding filter
  filter-filter p q r h [] = refl
  filter-filter p q r h (x ∷ xs) = rw (h x) (pick (filter-filter p q r h xs) (q x))
    where
      pick : filter p (filter q xs) ≡ filter r xs → (b : Bool) → filter p (cond b (x ∷ filter q xs) (filter q xs)) ≡ cond (b && p x) (x ∷ filter r xs) (filter r xs)
      pick ih true = rw ih refl
      pick ih false = ih

  -- ---- keys of what a test picks
  module _ (key : A → ℕ) where
    pub picked-sub : (p : A → Bool) (xs : List A) (n : ℕ) → member n (map key (filter p xs)) ≡ true → member n (map key xs) ≡ true
    unfolding filter member
    picked-sub p [] n t = t
    picked-sub p (x ∷ xs) n t = pick (picked-sub p xs n) (p x) t
      where
        pick : (member n (map key (filter p xs)) ≡ true → member n (map key xs) ≡ true) → (b : Bool) → member n (map key (cond b (x ∷ filter p xs) (filter p xs))) ≡ true
            → eqb n (key x) || member n (map key xs) ≡ true
        pick ih true t = or_map (eqb n (key x)) (member n (map key (filter p xs))) (member n (map key xs)) ih t
        pick ih false t = or_r (eqb n (key x)) (member n (map key xs)) (ih t)

    pub distinct_filter : (p : A → Bool) (xs : List A) → distinct (map key xs) ≡ true → distinct (map key (filter p xs)) ≡ true
    unfolding distinct filter
    distinct_filter p [] e = e
    distinct_filter p (x ∷ xs) e =
        let new = and_l (not (member (key x) (map key xs))) (distinct (map key xs)) e in
        pick (distinct_filter p xs (and_r (not (member (key x) (map key xs))) (distinct (map key xs)) e)) (not_t _ new) (p x)
      where
        pick : distinct (map key (filter p xs)) ≡ true → member (key x) (map key xs) ≡ false → (b : Bool) → distinct (map key (cond b (x ∷ filter p xs) (filter p xs))) ≡ true
        pick ih fr true = rw (ih, false_of (member (key x) (map key (filter p xs))) (λ t. clash (picked-sub p xs (key x) t) fr)) refl
        pick ih fr false = ih

-- ---- members
pub all-of-member : (f : ℕ → Bool) (ns : List ℕ) → ((n : ℕ) → member n ns ≡ true → f n ≡ true) → all f ns ≡ true
unfolding all
all-of-member f [] h = refl
all-of-member f (n ∷ ns) h = and_i (f n) (all f ns) (h n (member-here n ns)) (all-of-member f ns (λ m t. h m (member-there m n ns t)))

pub any_at : (f : ℕ → Bool) (ns : List ℕ) (n : ℕ) → member n ns ≡ true → f n ≡ true → any f ns ≡ true
unfolding any member
any_at f [] n m e = m
any_at f (k ∷ ns) n m e = pick (any_at f ns n) (eqb n k) refl m
  where
    pick : (member n ns ≡ true → f n ≡ true → any f ns ≡ true) → (b : Bool) → eqb n k ≡ b → b || member n ns ≡ true → f k || any f ns ≡ true
    pick ih true q m = or_l (f k) (any f ns) (ap f (sym (eqb-true n k q)) ∙ e)
    pick ih false q m = or_r (f k) (any f ns) (ih m e)

pub member_filter : (f : ℕ → Bool) (ns : List ℕ) (n : ℕ) → member n (filter f ns) ≡ member n ns && f n
unfolding filter member
member_filter f [] n = refl
member_filter f (x ∷ ns) n = pick (member_filter f ns n) (f x) refl (eqb n x) refl
  where
    pick : member n (filter f ns) ≡ member n ns && f n → (b : Bool) → f x ≡ b → (c : Bool) → eqb n x ≡ c → member n (cond b (x ∷ filter f ns) (filter f ns)) ≡ (c || member n ns) && f n
    pick ih true p true q = rw (q, ap f (eqb-true n x q) ∙ p) refl
    pick ih true p false q = rw q ih
    pick ih false p true q = let z : f n ≡ false = ap f (eqb-true n x q) ∙ p in rw z (ih ∙ and-rf (member n ns) (f n) z)
    pick ih false p false q = ih

pub member-nonzero : (ns : List ℕ) (n : ℕ) → member n (nonzero ns) ≡ some n && member n ns
unfolding nonzero
member-nonzero ns n = member_filter some ns n ∙ swap (member n ns) (some n)
  where
    swap : (a b : Bool) → a && b ≡ b && a
    swap true b = sym (and-true b)
    swap false b = sym (and-rf b false refl)
