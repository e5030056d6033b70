-- Functions that agree on the elements of a list, and the keys of the elements that a test keeps.
use Rattle.std.proofs.Common.{◌≡◌, ℕ, ◌<◌, Bool, true, false, cond, ◌&&◌, ◌||◌, eqb, List, [], ◌∷◌, map, sym, refl, ap, ◌∙◌, arith, ne_eqb, eqb-true}
use Rattle.rows.specs.Lists.{filter, first_with, rises, member}
use Rattle.rows.proofs.Bools.{eqb-self, eqb-sym, member-here, member-there}
use Rattle.rows.proofs.Keyed.{first_key, rises-rest, rises-older, rises-fresh}

abbrev pub Agree : {A B : Type 0} → (A → B) → (A → B) → List A → Type 0
Agree f g [] = Unit {0}
Agree f g (x ∷ xs) = (f x ≡ g x) × Agree f g xs

pub agree-map : {A B C : Type 0} (f g : A → B) (h k : A → C) → ((x : A) → f x ≡ g x → h x ≡ k x) → (xs : List A) → Agree f g xs → Agree h k xs
agree-map f g h k m [] a = tt
agree-map f g h k m (x ∷ xs) a = (m x a.0, agree-map f g h k m xs a.1)

pub filter-agree : {A : Type 0} (f g : A → Bool) (xs : List A) → Agree f g xs → filter f xs ≡ filter g xs
unfolding filter
filter-agree f g [] a = refl
filter-agree f g (x ∷ xs) a = rw (a.0, filter-agree f g xs a.1) refl

module _ {A : Type 0} (key : A → ℕ) (none : A) where
  pub first-here : (x : A) (xs : List A) → first_with key none (x ∷ xs) (key x) ≡ x
  unfolding first_with
  first-here x xs = rw (eqb-self (key x)) refl

  pub first-older : (x : A) (xs : List A) (n : ℕ) → n < key x → first_with key none (x ∷ xs) n ≡ first_with key none xs n
  unfolding first_with
  first-older x xs n h = rw (ne_eqb (key x) n (λ e. omega arith)) refl

  -- to agree on all is to agree on each that is found
  pub agree-found : {B : Type 0} (f g : A → B) (xs : List A) → rises key xs ≡ true
      → ((n : ℕ) → member n (map key xs) ≡ true → f (first_with key none xs n) ≡ g (first_with key none xs n)) → Agree f g xs
  agree-found f g [] up h = tt
  agree-found f g (x ∷ xs) up h = (
    (rw (first-here x xs) at (h (key x) (member-here (key x) (map key xs)))),
    agree-found f g xs (rises-rest key x xs up)
        (λ n m. rw (first-older x xs n (rises-older key x xs up n m)) at (h n (member-there n (key x) (map key xs) m))),
  )

  -- the keys that a test keeps
  pub keys_kept : (p : A → Bool) (xs : List A) → rises key xs ≡ true → (n : ℕ) → member n (map key (filter p xs)) ≡ member n (map key xs) && p (first_with key none xs n)
  unfolding filter member first_with
  keys_kept p [] up n = refl
  keys_kept p (x ∷ xs) up n = pick (keys_kept p xs (rises-rest key x xs up) n) (eqb (key x) n) refl (p x) refl
    where
      pick : member n (map key (filter p xs)) ≡ member n (map key xs) && p (first_with key none xs n) → (b : Bool) → eqb (key x) n ≡ b → (c : Bool) → p x ≡ c
          → member n (map key (cond c (x ∷ filter p xs) (filter p xs))) ≡ (eqb n (key x) || member n (map key xs)) && p (cond b x (first_with key none xs n))
      pick ih true q true d = rw (eqb-sym n (key x), q) (sym d)
      pick ih true q false d =
          let fresh : member n (map key xs) ≡ false = ap (λ (m : ℕ). member m (map key xs)) (sym (eqb-true (key x) n q)) ∙ rises-fresh key x xs up in
          rw (eqb-sym n (key x), q, d) (rw fresh at ih)
      pick ih false q true d = rw (eqb-sym n (key x), q) ih
      pick ih false q false d = rw (eqb-sym n (key x), q) ih

  -- an element's key is kept where the element is
  pub agree-kept : (p : A → Bool) (xs : List A) → rises key xs ≡ true → Agree (λ x. member (key x) (map key (filter p xs))) p xs
  agree-kept p xs up =
      agree-found (λ x. member (key x) (map key (filter p xs))) p xs up
      (λ n m. ap (λ (k : ℕ). member k (map key (filter p xs))) (first_key key none xs n m) ∙ keys_kept p xs up n ∙ ap (λ (b : Bool). b && p (first_with key none xs n)) m)
