-- Laws of Bool tests, member, filter, any and all.
use Rattle.std.proofs.Common.{◌≡◌, ℕ, ◌<◌, Bool, true, false, cond, not, ◌&&◌, ◌||◌, eqb, ◌⊎◌, List, [], ◌∷◌, ◌++◌, sym, refl, ap, ◌∙◌, inl, inr, true≢false, arith, ltb-false, ltb-true, lt-ltb, eq-eqb, ne_eqb, eqb-true}
use Rattle.std.specs.List.{list_any}
use mathlib.Core.Bool.{false≢true}
use borrow.Author.Tests.{eqb-false}
use Rattle.rows.specs.Lists.{filter, any, all, member, some}

-- ---- Bool
pub false_of : (b : Bool) → (b ≡ true → ⊥) → b ≡ false
false_of true h = absurd (h refl)
false_of false h = refl

pub true_of : (b : Bool) → (b ≡ false → ⊥) → b ≡ true
true_of true h = refl
true_of false h = absurd (h refl)

pub clash : {b : Bool} {A : Type 0} → b ≡ true → b ≡ false → A
clash {b} {A} p q = absurd (true≢false (sym p ∙ q))

-- a test is true or false, with the equation
pub true-or-false : (b : Bool) → (b ≡ true) ⊎ (b ≡ false)
true-or-false true = inl refl
true-or-false false = inr refl

-- two tests that imply each other are equal
pub bool_eq : (a b : Bool) → (a ≡ true → b ≡ true) → (b ≡ true → a ≡ true) → a ≡ b
bool_eq true true f g = refl
bool_eq true false f g = sym (f refl)
bool_eq false true f g = g refl
bool_eq false false f g = refl

pub and_l : (a b : Bool) → a && b ≡ true → a ≡ true
and_l true b e = refl
and_l false b e = e

pub and_r : (a b : Bool) → a && b ≡ true → b ≡ true
and_r true b e = e
and_r false b e = absurd (false≢true e)

pub and_i : (a b : Bool) → a ≡ true → b ≡ true → a && b ≡ true
and_i a b p q = rw (p, q) refl

pub not_t : (a : Bool) → not a ≡ true → a ≡ false
not_t true e = absurd (false≢true e)
not_t false e = refl

pub not_f : (a : Bool) → not a ≡ false → a ≡ true
not_f true e = refl
not_f false e = absurd (true≢false e)

pub or_cases : (a b : Bool) → a || b ≡ true → (a ≡ true) ⊎ (b ≡ true)
or_cases true b e = inl refl
or_cases false b e = inr e

pub or_map : (a x y : Bool) → (x ≡ true → y ≡ true) → a || x ≡ true → a || y ≡ true
or_map true x y h e = refl
or_map false x y h e = h e

pub or_l : (a b : Bool) → a ≡ true → a || b ≡ true
or_l a b e = rw e refl

pub or_r : (a b : Bool) → b ≡ true → a || b ≡ true
or_r true b e = refl
or_r false b e = e

pub or-fl : (a b : Bool) → a || b ≡ false → a ≡ false
or-fl true b e = e
or-fl false b e = refl

pub or-fr : (a b : Bool) → a || b ≡ false → b ≡ false
or-fr true b e = absurd (true≢false e)
or-fr false b e = e

pub de-morgan : (a b : Bool) → not a && not b ≡ not (a || b)
de-morgan true b = refl
de-morgan false b = refl

pub and-rf : (a b : Bool) → b ≡ false → a && b ≡ false
and-rf true b e = e
and-rf false b e = refl

pub and-true : (a : Bool) → a && true ≡ a
and-true true = refl
and-true false = refl

pub and-false : (b : Bool) → b && false ≡ false
and-false true = refl
and-false false = refl

pub or-false : (a : Bool) → a || false ≡ a
or-false true = refl
or-false false = refl

pub or_swap : (a b : Bool) → a || b ≡ b || a
or_swap true true = refl
or_swap true false = refl
or_swap false true = refl
or_swap false false = refl

-- ---- numbers
pub eqb-sym-f : (m n : ℕ) → eqb m n ≡ false → eqb n m ≡ false
eqb-sym-f m n e = ne_eqb n m (λ p. eqb-false m n e (sym p))

pub eqb-sym : (m n : ℕ) → eqb m n ≡ eqb n m
eqb-sym m n = bool_eq (eqb m n) (eqb n m) (λ e. eq-eqb n m (sym (eqb-true m n e))) (λ e. eq-eqb m n (sym (eqb-true n m e)))

pub eqb-self : (n : ℕ) → eqb n n ≡ true
eqb-self n = eq-eqb n n refl

pub some-pos : (n : ℕ) → some n ≡ true → 0 < n
unfolding some
some-pos n e = ltb-true 0 n e

pub pos-some : (n : ℕ) → 0 < n → some n ≡ true
unfolding some
pos-some n h = lt-ltb 0 n h

-- 0 and what is not 0, by the two tests
pub none-zero : (n : ℕ) → some n ≡ false → n ≡ 0
unfolding some
none-zero n e = let h = ltb-false 0 n e in omega arith

pub zero-none : (n : ℕ) → eqb n 0 ≡ true → some n ≡ false
unfolding some
zero-none n e = rw (eqb-true n 0 e) refl

pub not-zero : (n : ℕ) → eqb n 0 ≡ false → some n ≡ true
not-zero n e = true_of (some n) (λ h. eqb-false n 0 e (none-zero n h))

-- ---- all, any, filter
module _ {A : Type 0} where
  pub all-mono : (f g : A → Bool) → ((a : A) → f a ≡ true → g a ≡ true) → (xs : List A) → all f xs ≡ true → all g xs ≡ true
  unfolding all
  all-mono f g h [] e = refl
  all-mono f g h (a ∷ xs) e = and_i (g a) (all g xs) (h a (and_l (f a) (all f xs) e)) (all-mono f g h xs (and_r (f a) (all f xs) e))

  pub all-eq : (f g : A → Bool) → ((a : A) → f a ≡ g a) → (xs : List A) → all f xs ≡ all g xs
  unfolding all
  all-eq f g h [] = refl
  all-eq f g h (a ∷ xs) = rw (h a, all-eq f g h xs) refl

  pub all-eq-on : (p f g : A → Bool) → ((a : A) → p a ≡ true → f a ≡ g a) → (xs : List A) → all p xs ≡ true → all f xs ≡ all g xs
  unfolding all
  all-eq-on p f g h [] e = refl
  all-eq-on p f g h (a ∷ xs) e = rw (h a (and_l (p a) (all p xs) e), all-eq-on p f g h xs (and_r (p a) (all p xs) e)) refl

  -- of both tests, if of each
  pub all-and : (p f g : A → Bool) → ((a : A) → p a ≡ true → f a ≡ true → g a ≡ true) → (xs : List A) → all p xs ≡ true → all f xs ≡ true → all g xs ≡ true
  unfolding all
  all-and p f g h [] e d = refl
  all-and p f g h (a ∷ xs) e d =
      and_i (g a) (all g xs) (h a (and_l (p a) (all p xs) e) (and_l (f a) (all f xs) d)) (all-and p f g h xs (and_r (p a) (all p xs) e) (and_r (f a) (all f xs) d))

  pub all_filter : (p f : A → Bool) (xs : List A) → all f xs ≡ true → all f (filter p xs) ≡ true
  unfolding all filter
  all_filter p f [] e = refl
  all_filter p f (a ∷ xs) e = pick (all_filter p f xs (and_r (f a) (all f xs) e)) (p a)
    where
      pick : all f (filter p xs) ≡ true → (b : Bool) → all f (cond b (a ∷ filter p xs) (filter p xs)) ≡ true
      pick ih true = and_i (f a) (all f (filter p xs)) (and_l (f a) (all f xs) e) ih
      pick ih false = ih

  pub any-mono : (f g : A → Bool) → ((a : A) → f a ≡ true → g a ≡ true) → (xs : List A) → any f xs ≡ true → any g xs ≡ true
  unfolding any
  any-mono f g h [] e = e
  any-mono f g h (a ∷ xs) e = pick (any-mono f g h xs) (f a) refl e
    where
      pick : (any f xs ≡ true → any g xs ≡ true) → (b : Bool) → f a ≡ b → b || any f xs ≡ true → g a || any g xs ≡ true
      pick ih true q e = or_l (g a) (any g xs) (h a q)
      pick ih false q e = or_r (g a) (any g xs) (ih e)

  pub any-eq : (f g : A → Bool) → ((a : A) → f a ≡ g a) → (xs : List A) → any f xs ≡ any g xs
  unfolding any
  any-eq f g h [] = refl
  any-eq f g h (a ∷ xs) = rw (h a, any-eq f g h xs) refl

  pub any_append : (f : A → Bool) (xs ys : List A) → any f (xs ++ ys) ≡ any f xs || any f ys
  unfolding any
  any_append f [] ys = refl
  any_append f (x ∷ xs) ys = rw (any_append f xs ys) (pick (f x) (any f xs) (any f ys))
    where
      pick : (a b c : Bool) → a || (b || c) ≡ a || b || c
      pick true b c = refl
      pick false b c = refl

  -- none passes, if none of them does
  pub any_none : (f : A → Bool) → ((a : A) → f a ≡ false) → (xs : List A) → any f xs ≡ false
  unfolding any
  any_none f h [] = refl
  any_none f h (a ∷ xs) = rw (h a) (any_none f h xs)

-- ---- member
pub member-here : (n : ℕ) (ms : List ℕ) → member n (n ∷ ms) ≡ true
unfolding member
member-here n ms = rw (eq-eqb n n refl) refl

-- std's `contains` of numbers
pub any-member : (n : ℕ) (ms : List ℕ) → list_any (λ m. eqb m n) ms ≡ member n ms
unfolding member
any-member n [] = refl
any-member n (m ∷ ms) = rw (eqb-sym m n, any-member n ms) refl

pub member-there : (n m : ℕ) (ms : List ℕ) → member n ms ≡ true → member n (m ∷ ms) ≡ true
unfolding member
member-there n m ms e = or_r (eqb n m) (member n ms) e

pub member-cases : (n m : ℕ) (ms : List ℕ) → member n (m ∷ ms) ≡ true → (n ≡ m) ⊎ (member n ms ≡ true)
unfolding member
member-cases n m ms e = pick (eqb n m) refl e
  where
    pick : (b : Bool) → eqb n m ≡ b → b || member n ms ≡ true → (n ≡ m) ⊎ (member n ms ≡ true)
    pick true q e = inl (eqb-true n m q)
    pick false q e = inr e

pub all-at : (f : ℕ → Bool) (ns : List ℕ) → all f ns ≡ true → (n : ℕ) → member n ns ≡ true → f n ≡ true
unfolding all member
all-at f [] e n t = clash t refl
all-at f (m ∷ ns) e n t = pick (all-at f ns (and_r (f m) (all f ns) e) n) (eqb n m) refl t
  where
    pick : (member n ns ≡ true → f n ≡ true) → (b : Bool) → eqb n m ≡ b → b || member n ns ≡ true → f n ≡ true
    pick ih true q t = ap f (eqb-true n m q) ∙ and_l (f m) (all f ns) e
    pick ih false q t = ih t

-- not all is some not
pub all-not : (m : List ℕ) (ss : List ℕ) → all (λ s. not (member s m)) ss ≡ not (any (λ s. member s m) ss)
unfolding all any
all-not m [] = refl
all-not m (s ∷ ss) = rw (all-not m ss) (de-morgan (member s m) (any (λ s. member s m) ss))
