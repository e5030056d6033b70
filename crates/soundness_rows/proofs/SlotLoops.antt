-- Loops over the slots of a list, the oldest first: a turn tests the element at its slot, with the older ones at hand; the first that fails ends it.
use Rattle.std.proofs.Common.{◌≡◌, ℕ, ◌+◌, ◌<◌, ◌≤◌, Bool, true, false, ◌&&◌, List, [], ◌∷◌, ◌++◌, length, sym, refl, ap, ◌∙◌, ⊎_elim, eq-or-lt_of_le, arith}
use Rattle.rows.specs.Lists.{all, each}
use Rattle.soundness_rows.specs.vocabulary.AtSlot.{AtSlot}
use Rattle.rows.proofs.Bools.{false_of, clash, and_i}
use Rattle.rows.proofs.KeySlots.{cut_at, each-cut}

module _ {A : Type 0} where
  -- the elements of the first i slots pass
  pub record Passed (F : A → List A → Bool) (xs : List A) (i : ℕ) : Type 0 where
    pub passes : (new : List A) (x : A) (old : List A) → xs ≡ new ++ (x ∷ old) → length old < i → F x old ≡ true

  pub passed_none : (F : A → List A → Bool) (xs : List A) → Passed F xs 0
  passed_none F xs = record { passes = λ new x old e h. absurd (omega arith) }

  pub passed-more : {F : A → List A → Bool} {xs : List A} {i : ℕ} → Passed F xs i → AtSlot F xs i true → Passed F xs (i + 1)
  passed-more {F} {xs} {i} p a =
      record {
        passes =
            λ new x old e h.
            ⊎_elim (λ d. sym (a.told new x old e d)) (λ lt. p.passes new x old e lt) (eq-or-lt_of_le (let g : length old ≤ i = omega arith in g));
      }

  pub passed-all : (F : A → List A → Bool) (xs : List A) → Passed F xs (length xs) → each F xs ≡ true
  unfolding each
  passed-all F [] p = refl
  passed-all F (x ∷ xs) p =
      and_i (F x xs) (each F xs) (p.passes [] x xs refl (omega arith))
      (passed-all F xs record { passes = λ new y old e h. p.passes (x ∷ new) y old (ap (λ (l : List A). x ∷ l) e) (omega arith) })

  -- one that fails
  pub failed-at : {F : A → List A → Bool} {xs : List A} {i : ℕ} → i < length xs → AtSlot F xs i false → each F xs ≡ false
  failed-at {F} {xs} {i} h a =
      let c = cut_at xs i h in
      false_of (each F xs)
      (λ e. clash (each-cut F c.new c.here c.old (ap (each F) (sym c.split) ∙ e)) (sym (a.told c.new c.here c.old c.split c.long)))

  -- ---- a loop that goes on to the end: b says whether the elements of the first i slots pass
  pub record Tested (F : A → List A → Bool) (xs : List A) (i : ℕ) (b : Bool) : Type 0 where
    pub holds : b ≡ true → Passed F xs i
    pub fails : b ≡ false → each F xs ≡ false

  pub tested-none : (F : A → List A → Bool) (xs : List A) → Tested F xs 0 true
  tested-none F xs = record { holds = λ e. passed_none F xs; fails = λ e. clash refl e }

  pub tested-more : {F : A → List A → Bool} {xs : List A} {i : ℕ} {b : Bool} (a : Bool) → i < length xs → Tested F xs i b → AtSlot F xs i a → Tested F xs (i + 1) (a && b)
  tested-more true h q at = record { holds = λ e. passed-more (q.holds e) at; fails = λ e. q.fails e }
  tested-more false h q at = record { holds = λ e. clash e refl; fails = λ e. failed-at h at }

  pub tested-all : (F : A → List A → Bool) (xs : List A) (b : Bool) → Tested F xs (length xs) b → b ≡ each F xs
  tested-all F xs true q = sym (passed-all F xs (q.holds refl))
  tested-all F xs false q = sym (q.fails refl)

  pub each_and : (F G : A → List A → Bool) (xs : List A) → each (λ x old. F x old && G x old) xs ≡ each F xs && each G xs
  unfolding each
  each_and F G [] = refl
  each_and F G (x ∷ xs) = rw (each_and F G xs) (swap (F x xs) (G x xs) (each F xs) (each G xs))
    where
      swap : (a b c d : Bool) → (a && b) && (c && d) ≡ (a && c) && (b && d)
      swap true true c d = refl
      swap true false true d = refl
      swap true false false d = refl
      swap false b c d = refl

  pub each-join : (F G : A → List A → Bool) (xs : List A) {b c : Bool} → each F xs ≡ b → each G xs ≡ c → each (λ x old. F x old && G x old) xs ≡ b && c
  each-join F G xs p q = each_and F G xs ∙ (λ i. p i && q i)

  -- a test that looks at no older element
  pub each_all : (f : A → Bool) (xs : List A) → each (λ x old. f x) xs ≡ all f xs
  unfolding each all
  each_all f [] = refl
  each_all f (x ∷ xs) = ap (λ (b : Bool). f x && b) (each_all f xs)
