-- Tests of several items joined: of those that a test picks, and four answers in one.
use Prim.Native.Nat.{ℕ, zero, suc, ◌<◌, zero-le}
use lib.Dec.{eqb}
use mathlib.Core.Bool.{Bool, true, false, cond, ◌&&◌, ◌||◌}
use mathlib.Core.List.{List, [], ◌∷◌}
use mathlib.Core.Path.{◌≡◌, refl, ap, sym}
use Rattle.rows.proofs.Bools.{eqb-sym, or_r}
use Rattle.std.specs.Bool.{MatchBool}
use Rattle.std.specs.List.{list_any, All, AllWithin, HoldsAt}
use Rattle.std.proofs.lemmas.List.Folds.{list_any_none}
use native.Mathlib.Omega.{arith}
use lib.ListN.{length, get_or}
use Rattle.rows.specs.Lists.{any, filter, member}

pub any-filter : {A : Type 0} (f g : A → Bool) (xs : List A) → any f (filter g xs) ≡ any (λ x. g x && f x) xs
unfolding any filter
any-filter f g [] = refl
any-filter {A} f g (x ∷ xs) = pick (any-filter f g xs) (g x)
  where
    pick : any f (filter g xs) ≡ any (λ x. g x && f x) xs → (b : Bool) → any f (cond b (x ∷ filter g xs) (filter g xs)) ≡ (b && f x) || any (λ x. g x && f x) xs
    pick ih true = ap (λ (b : Bool). f x || b) ih
    pick ih false = ih

-- std's word for it
pub any-list : {A : Type 0} (f : A → Bool) (xs : List A) → list_any f xs ≡ any f xs
unfolding any
any-list f [] = refl
any-list f (x ∷ xs) = ap (λ (b : Bool). f x || b) (any-list f xs)

-- the answer of std's `any`, where the test is known of elements that have P, and all have it
any-at : {A : Type 0} (f : A → Bool) (xs : List A) (k : ℕ) (d : A) → k < length xs → true ≡ f (get_or xs k d) → true ≡ list_any f xs
any-at f [] k d h e = absurd (omega arith)
any-at f (x ∷ xs) zero d h e = rw (← e) refl
any-at f (x ∷ xs) (suc k) d h e = sym (or_r (f x) (list_any f xs) (sym (any-at f xs k d (omega arith) e)))

pub any-cases : {A : Type 0} (P : A → Type 0) (f : A → Bool) (xs : List A) (r : Bool) → All P xs
    → MatchBool r ((k : ℕ) × (k < length xs) × HoldsAt (λ x. P x → true ≡ f x) xs k) (AllWithin (λ x. P x → false ≡ f x) xs 0 (length xs))
    → r ≡ list_any f xs
any-cases P f [] true h m = absurd (omega (arith, m.1))
any-cases P f (x ∷ xs) true h m = any-at f (x ∷ xs) m.0 x m.1 (m.2 x (h m.0 x m.1))
any-cases P f xs false h m = sym (list_any_none f xs (λ k d few. sym (m k d zero-le few (h k d few))))

pub any-member : (n : ℕ) (ns : List ℕ) → any (λ m. eqb m n) ns ≡ member n ns
unfolding any member
any-member n [] = refl
any-member n (m ∷ ms) = rw (any-member n ms, eqb-sym m n) refl
