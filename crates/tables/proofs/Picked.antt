-- Keyed lists whose keys rise: each element is found by its key, also among those that a test picks.
use Prim.Native.Nat.{ℕ}
use mathlib.Core.Bool.{Bool, true, false, cond}
use mathlib.Core.List.{List, [], ◌∷◌, map}
use mathlib.Core.Path.{◌≡◌, refl, sym, ap, ◌∙◌}
use lib.Dec.{eqb}
use borrow.Author.Tests.{ne_eqb}
use Rattle.rows.specs.Lists.{filter, all, first_with, rises, member}
use Rattle.rows.proofs.Bools.{clash, and_i, eqb-sym-f, member-here, member-there}
use Rattle.rows.proofs.Keyed.{rises-rest, rises-fresh}
use Rattle.rows.proofs.Lists.{picked-sub}
pub use Rattle.rows.proofs.Agree.{first-here, keys_kept as keys-picked}

module _ {A : Type 0} (key : A → ℕ) where
  -- what holds of every key holds of every element's
  pub all-keys : (P : ℕ → Bool) (xs : List A) → ((n : ℕ) → member n (map key xs) ≡ true → P n ≡ true) → all (λ x. P (key x)) xs ≡ true
  unfolding all
  all-keys P [] h = refl
  all-keys P (x ∷ xs) h = and_i (P (key x)) (all (λ x. P (key x)) xs) (h (key x) (member-here (key x) (map key xs))) (all-keys P xs (λ n t. h n (member-there n (key x) (map key xs) t)))

  -- an older key is another one than the first
  pub older-other : (x : A) (xs : List A) → rises key (x ∷ xs) ≡ true → (n : ℕ) → member n (map key xs) ≡ true → eqb (key x) n ≡ false
  older-other x xs u n t = ne_eqb (key x) n (λ e. clash t (ap (λ k. member k (map key xs)) (sym e) ∙ rises-fresh key x xs u))

  module _ (none : A) where
    pub first-other : (x : A) (xs : List A) (n : ℕ) → eqb (key x) n ≡ false → first_with key none (x ∷ xs) n ≡ first_with key none xs n
    unfolding first_with
    first-other x xs n q = rw q refl

    -- what holds of all that is found holds of all
    pub all_found : (F : A → Bool) (xs : List A) → rises key xs ≡ true → ((n : ℕ) → member n (map key xs) ≡ true → F (first_with key none xs n) ≡ true) → all F xs ≡ true
    unfolding all
    all_found F [] u h = refl
    all_found F (x ∷ xs) u h =
        and_i (F x) (all F xs) (ap F (sym (first-here key none x xs)) ∙ h (key x) (member-here (key x) (map key xs)))
        (all_found F xs (rises-rest key x xs u) (λ n t. ap F (sym (first-other x xs n (older-other x xs u n t))) ∙ h n (member-there n (key x) (map key xs) t)))

    -- what a test picks is found there as in the whole list
    pub first-picked : (p : A → Bool) (xs : List A) → rises key xs ≡ true → (n : ℕ) → member n (map key (filter p xs)) ≡ true → first_with key none (filter p xs) n ≡ first_with key none xs n
    unfolding filter member first_with
    first-picked p [] u n t = refl
    first-picked p (x ∷ xs) u n t = pick (first-picked p xs (rises-rest key x xs u) n) (p x) t
      where
        pick : (member n (map key (filter p xs)) ≡ true → first_with key none (filter p xs) n ≡ first_with key none xs n) → (c : Bool)
            → member n (map key (cond c (x ∷ filter p xs) (filter p xs))) ≡ true → first_with key none (cond c (x ∷ filter p xs) (filter p xs)) n ≡ cond (eqb (key x) n) x (first_with key none xs n)
        pick ih true t = last (eqb (key x) n) refl
          where
            last : (b : Bool) → eqb (key x) n ≡ b → cond b x (first_with key none (filter p xs) n) ≡ cond b x (first_with key none xs n)
            last true q = refl
            last false q = ih (rw (eqb-sym-f (key x) n q) at t)
        pick ih false t = ih t ∙ sym (first-other x xs n (older-other x xs u n (picked-sub key p xs n t)))
