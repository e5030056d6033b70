-- Forms made of numbers in rising order and turned round, as an opening has read them: what they say of a number, and that each passes.
use Prim.Native.Nat.{ℕ, zero, suc, ◌+◌, ◌≤◌, ◌<◌}
use native.Mathlib.Omega.{arith}
use mathlib.Core.Bool.{Bool, true, false, cond, ◌&&◌, ◌||◌}
use mathlib.Core.List.{List, [], ◌∷◌, map, reverse_aux}
use mathlib.Core.Path.{◌≡◌, refl, sym, ap, ◌∙◌}
use lib.Dec.{eqb}
use borrow.Author.Tests.{eqb-true, eqb-false, ne_eqb}
use Rattle.rows.specs.Lists.{filter, each, between}
use Rattle.rows.proofs.Bools.{and_i}
use Rattle.rows.proofs.Places.{range-between}
use Rattle.text.specs.Opening.{Form}
use Rattle.text.proofs.OpeningForms.{form_passed}
use Rattle.joining.specs.Joins.{numbers_from}

-- n is one of the k numbers from a on
unfoldable pub among : ℕ → ℕ → ℕ → Bool
among a zero n = false
among a (suc k) n = eqb a n || among (suc a) k n

pub among_in : (a k n : ℕ) → a ≤ n → n < a + k → among a k n ≡ true
unfolding among
among_in a zero n lo hi = absurd (omega arith)
among_in a (suc k) n lo hi = pick (eqb a n) refl (among_in (suc a) k n)
  where
    pick : (b : Bool) → eqb a n ≡ b → (suc a ≤ n → n < suc a + k → among (suc a) k n ≡ true) → b || among (suc a) k n ≡ true
    pick true e later = refl
    pick false e later = let other = eqb-false a n e in later (omega arith) (omega arith)

module _ (given : ℕ → Bool) (make : ℕ → Form) where
  abbrev pub numbered : ℕ → ℕ → List Form
  numbered a k = map make (filter given (numbers_from a k))

  -- ---- what forms say of a number, where a form says it of its own number alone
  module _ {B : Type 0} (look : List Form → ℕ → B) (value : ℕ → B)
      (own : (m : ℕ) (fs : List Form) (n : ℕ) → look (make m ∷ fs) n ≡ cond (eqb m n) (value m) (look fs n)) where
    first-given : (b t x : Bool) (a n : ℕ) → eqb a n ≡ t → given a ≡ b → (v : B)
        → cond (x && given n) (value n) (cond b (cond t (value a) v) v) ≡ cond ((t || x) && given n) (value n) v
    first-given true true x a n e g v =
        let same = eqb-true a n e in
        let yes : given n ≡ true = ap given (sym same) ∙ g in
        rw yes (both x (ap value same))
      where
        both : (x : Bool) → value a ≡ value n → cond (x && true) (value n) (value a) ≡ value n
        both true q = refl
        both false q = q
    first-given false true x a n e g v =
        let no : given n ≡ false = ap given (sym (eqb-true a n e)) ∙ g in
        rw no (neither x)
      where
        neither : (x : Bool) → cond (x && false) (value n) v ≡ v
        neither true = refl
        neither false = refl
    first-given true false x a n e g v = refl
    first-given false false x a n e g v = refl

    pub said : (k a : ℕ) (fs : List Form) (n : ℕ) → look (reverse_aux (numbered a k) fs) n ≡ cond (among a k n && given n) (value n) (look fs n)
    unfolding numbers_from filter among
    said zero a fs n = refl
    said (suc k) a fs n = pick (given a) refl (λ gs. said k (suc a) gs n) ∙ first-given (given a) (eqb a n) (among (suc a) k n) a n refl refl (look fs n)
      where
        pick : (b : Bool) → given a ≡ b → ((gs : List Form) → look (reverse_aux (numbered (suc a) k) gs) n ≡ cond (among (suc a) k n && given n) (value n) (look gs n))
            → look (reverse_aux (map make (cond b (a ∷ filter given (numbers_from (suc a) k)) (filter given (numbers_from (suc a) k)))) fs) n
            ≡ cond (among (suc a) k n && given n) (value n) (cond b (cond (eqb a n) (value a) (look fs n)) (look fs n))
        pick true e ih = ih (make a ∷ fs) ∙ ap (cond (among (suc a) k n && given n) (value n)) (own a fs n)
        pick false e ih = ih fs

  -- ---- what these forms say nothing of
  pub unsaid : {B : Type 0} (look : List Form → ℕ → B) → ((m : ℕ) (fs : List Form) (n : ℕ) → look (make m ∷ fs) n ≡ look fs n)
      → (ns : List ℕ) (fs : List Form) (n : ℕ) → look (reverse_aux (map make ns) fs) n ≡ look fs n
  unsaid look none [] fs n = refl
  unsaid look none (m ∷ ns) fs n = unsaid look none ns (make m ∷ fs) n ∙ none m fs n

  -- ---- each passes after those before it, if its number is in range and new
  module _ (most : ℕ) (has : List Form → ℕ → Bool)
      (own : (m : ℕ) (fs : List Form) (n : ℕ) → has (make m ∷ fs) n ≡ eqb m n || has fs n)
      (passes : (m : ℕ) (fs : List Form) → between 1 most m ≡ true → given m ≡ true → has fs m ≡ false → form_passed (make m) fs ≡ true) where
    pub all_pass : (k a : ℕ) (fs : List Form) → 1 ≤ a → a + k ≤ suc most → ((n : ℕ) → a ≤ n → has fs n ≡ false) → each form_passed fs ≡ true
        → each form_passed (reverse_aux (numbered a k) fs) ≡ true
    unfolding numbers_from filter each
    all_pass zero a fs lo hi new p = p
    all_pass (suc k) a fs lo hi new p = pick (given a) refl (λ gs. all_pass k (suc a) gs (omega arith) (omega arith))
      where
        later : (n : ℕ) → suc a ≤ n → has (make a ∷ fs) n ≡ false
        later n h = own a fs n ∙ rw (ne_eqb a n (λ e. omega arith)) (new n (omega arith))

        pick : (b : Bool) → given a ≡ b
            → ((gs : List Form) → ((n : ℕ) → suc a ≤ n → has gs n ≡ false) → each form_passed gs ≡ true → each form_passed (reverse_aux (numbered (suc a) k) gs) ≡ true)
            → each form_passed (reverse_aux (map make (cond b (a ∷ filter given (numbers_from (suc a) k)) (filter given (numbers_from (suc a) k)))) fs) ≡ true
        pick true e ih =
            let here = passes a fs (range-between 1 most a lo (omega arith)) e (new a (omega arith)) in
            ih (make a ∷ fs) later (and_i (form_passed (make a) fs) (each form_passed fs) here p)
        pick false e ih = ih fs (λ n h. new n (omega arith)) p
