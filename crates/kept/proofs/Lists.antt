-- Laws of lists that the proofs on ask and fetch share: mapped lists, look-up by two keys.
use Prim.Native.Nat.{ℕ, ◌<◌}
use mathlib.Core.Bool.{Bool, true, false, cond, ◌||◌}
use mathlib.Core.List.{List, [], ◌∷◌, map}
use mathlib.Core.Path.{◌≡◌, refl, ap, ◌∙◌}
use lib.Dec.{eqb}
use borrow.Author.Tests.{ne_eqb}
use native.Mathlib.Omega.{arith}
use Rattle.rows.specs.Lists.{all, each, first_with, top_of, rises, member, some}
use Rattle.rows.proofs.Bools.{clash, and_l, and_r, and_i, or_l, or_r, eqb-self}
use Rattle.rows.proofs.Keyed.{rises-rest, rises-older}

module _ {A : Type 0} where
  -- what holds of each element with those after it, after a change of the elements, all of which pass P
  pub each_map : (P : A → Bool) (F G : A → List A → Bool) (g : A → A)
      → ((x : A) (xs : List A) → P x ≡ true → all P xs ≡ true → F x xs ≡ true → G (g x) (map g xs) ≡ true)
      → (xs : List A) → all P xs ≡ true → each F xs ≡ true → each G (map g xs) ≡ true
  unfolding each all
  each_map P F G g h [] p e = refl
  each_map P F G g h (x ∷ xs) p e =
      and_i (G (g x) (map g xs)) (each G (map g xs))
      (h x xs (and_l (P x) (all P xs) p) (and_r (P x) (all P xs) p) (and_l (F x xs) (each F xs) e))
      (each_map P F G g h xs (and_r (P x) (all P xs) p) (and_r (F x xs) (each F xs) e))

  pub all_true : (xs : List A) → all (λ x. true) xs ≡ true
  unfolding all
  all_true [] = refl
  all_true (x ∷ xs) = all_true xs

  module _ (key : A → ℕ) (none : A) where
    pub top-map : (g : A → A) → ((x : A) → key (g x) ≡ key x) → (xs : List A) → top_of key (map g xs) ≡ top_of key xs
    unfolding top_of
    top-map g k [] = refl
    top-map g k (x ∷ xs) = k x

    -- what a look-up by another key finds, the first key finds too
    pub other-there : (by : A → ℕ) → key none ≡ 0 → (xs : List A) (c : ℕ) → some (key (first_with by none xs c)) ≡ true → member (key (first_with by none xs c)) (map key xs) ≡ true
    unfolding first_with member
    other-there by z [] c t = clash t (ap some z ∙ (unfold some in refl))
    other-there by z (x ∷ xs) c t = pick (other-there by z xs c) (eqb (by x) c) t
      where
        pick : (some (key (first_with by none xs c)) ≡ true → member (key (first_with by none xs c)) (map key xs) ≡ true) → (b : Bool) → some (key (cond b x (first_with by none xs c))) ≡ true
            → eqb (key (cond b x (first_with by none xs c))) (key x) || member (key (cond b x (first_with by none xs c))) (map key xs) ≡ true
        pick ih true t = or_l (eqb (key x) (key x)) (member (key x) (map key xs)) (eqb-self (key x))
        pick ih false t = or_r (eqb (key (first_with by none xs c)) (key x)) (member (key (first_with by none xs c)) (map key xs)) (ih t)

    pub other-same : (by : A → ℕ) → key none ≡ 0 → (xs : List A) → rises key xs ≡ true → (c : ℕ) → some (key (first_with by none xs c)) ≡ true
        → first_with key none xs (key (first_with by none xs c)) ≡ first_with by none xs c
    unfolding first_with
    other-same by z [] e c t = refl
    other-same by z (x ∷ xs) e c t = pick (other-same by z xs (rises-rest key x xs e) c) (other-there by z xs c) (eqb (by x) c) t
      where
        pick : (some (key (first_with by none xs c)) ≡ true → first_with key none xs (key (first_with by none xs c)) ≡ first_with by none xs c)
            → (some (key (first_with by none xs c)) ≡ true → member (key (first_with by none xs c)) (map key xs) ≡ true)
            → (b : Bool) → some (key (cond b x (first_with by none xs c))) ≡ true
            → cond (eqb (key x) (key (cond b x (first_with by none xs c)))) x (first_with key none xs (key (cond b x (first_with by none xs c)))) ≡ cond b x (first_with by none xs c)
        pick ih m true t = rw (eqb-self (key x)) refl
        pick ih m false t =
            let lt : key (first_with by none xs c) < key x = rises-older key x xs e (key (first_with by none xs c)) (m t) in
            rw (ne_eqb (key x) (key (first_with by none xs c)) (λ q. omega arith)) (ih t)
