-- Marks of slots: what stands at the slot of a number, a mark more, and marks of rows that were changed.
use Prim.Native.Nat.{ℕ, zero, suc, ◌<◌, ◌≤◌}
use mathlib.Core.Bool.{Bool, true, false, cond, ◌&&◌, ◌||◌}
use mathlib.Core.List.{List, [], ◌∷◌, ◌++◌, map}
use mathlib.Core.Path.{◌≡◌, refl, ap, sym, ◌∙◌}
use native.Mathlib.Nat.{not-suc-le-zero, le_of_suc-le-suc}
use native.Mathlib.Omega.{arith}
use lib.Dec.{eqb}
use borrow.Author.Tests.{eqb-true, ne_eqb}
use lib.ListN.{length, get_or, set, length-append, get_or-append}
use lib.Seq.{get_or_at, set_at, set-append_left}
use Rattle.rows.specs.declared.Row.{Row}
use Rattle.rows.specs.Lists.{rises, member, pad, some, slot_with}
use Rattle.rows.specs.Layout.{row_slot}
use Rattle.rows.proofs.Bools.{eqb-sym-f, or-fl, or-fr, and-false}
use Rattle.rows.proofs.Keyed.{rises-rest, rises-fresh}
use Rattle.rows.proofs.KeySlots.{slot-le, slot-none}
use Rattle.rows.proofs.LayoutColumns.{get_d-pad}
use Rattle.changes.specs.vocabulary.Marks.{tested}
use Rattle.changes.proofs.Keep.{length-tested}
use Rattle.rows.specs.vocabulary.Sizes.{ROWS}
use Rattle.closing.specs.vocabulary.Lists.{slot_marks, among}

-- ---- marks that are padded
module _ (d : Bool) where
  set-pad : (k : ℕ) (l : List Bool) (i : ℕ) (b : Bool) → i < length l → set (pad d k l) i b ≡ pad d k (set l i b)
  unfolding pad
  set-pad k [] i b h = absurd (not-suc-le-zero h)
  set-pad zero (x ∷ l) i b h = refl
  set-pad (suc k) (x ∷ l) zero b h = refl
  set-pad (suc k) (x ∷ l) (suc i) b h = ap (λ (r : List Bool). x ∷ r) (set-pad k l i b (le_of_suc-le-suc h))

-- ---- marks of keys
pub tested_eq : {A : Type 0} (p q : A → Bool) → ((x : A) → p x ≡ q x) → (xs : List A) → tested p xs ≡ tested q xs
tested_eq p q h xs = λ i. tested (λ x. h x i) xs

pub tested-map : {A : Type 0} (p : A → Bool) (h : A → A) (xs : List A) → tested p (map h xs) ≡ tested (λ x. p (h x)) xs
unfolding tested
tested-map p h [] = refl
tested-map p h (x ∷ xs) = ap (λ (l : List Bool). l ++ (p (h x) ∷ [])) (tested-map p h xs)

-- the mark of the element where the older ones end
pub tested_at : {A : Type 0} (p : A → Bool) (new : List A) (x : A) (old : List A) → get_or (tested p (new ++ (x ∷ old))) (length old) false ≡ p x
unfolding tested
tested_at p [] x old = get_or_at (tested p old) (p x) [] false (length old) (length-tested p old)
tested_at p (y ∷ new) x old =
    get_or-append (tested p (new ++ (x ∷ old))) (p y ∷ []) false (length old)
    (omega (arith, length-tested p (new ++ (x ∷ old)), length-append new (x ∷ old)))
    ∙ tested_at p new x old

module _ {A : Type 0} (key : A → ℕ) (b : ℕ → Bool) (n : ℕ) where
  abbrev in-it : A → Bool
  in-it x = b (key x)

  abbrev in-more : A → Bool
  in-more x = b (key x) || eqb (key x) n

  pub mark-at : (xs : List A) (i : ℕ) → slot_with key xs n ≡ suc i → get_or (tested in-it xs) i false ≡ b n
  unfolding slot_with tested
  mark-at [] i e = absurd (omega arith)
  mark-at (x ∷ xs) i e = pick (mark-at xs i) (eqb (key x) n) refl e
    where
      pick : (slot_with key xs n ≡ suc i → get_or (tested in-it xs) i false ≡ b n)
          → (c : Bool) → eqb (key x) n ≡ c → cond c (suc (length xs)) (slot_with key xs n) ≡ suc i
          → get_or (tested in-it xs ++ (b (key x) ∷ [])) i false ≡ b n
      pick ih true q e = get_or_at (tested in-it xs) (b (key x)) [] false i (omega (arith, length-tested in-it xs)) ∙ ap b (eqb-true (key x) n q)
      pick ih false q e = get_or-append (tested in-it xs) (b (key x) ∷ []) false i (omega (arith, length-tested in-it xs, slot-le key xs n)) ∙ ih e

  or-false : (c : Bool) → c ≡ c || false
  or-false true = refl
  or-false false = refl

  or-true : (c : Bool) → true ≡ c || true
  or-true true = refl
  or-true false = refl

  -- no element has the key
  mark-none : (xs : List A) → member n (map key xs) ≡ false → tested in-it xs ≡ tested in-more xs
  unfolding tested member
  mark-none [] e = refl
  mark-none (x ∷ xs) e =
      let q : eqb (key x) n ≡ false = eqb-sym-f n (key x) (or-fl (eqb n (key x)) (member n (map key xs)) e) in
      let ih = mark-none xs (or-fr (eqb n (key x)) (member n (map key xs)) e) in
      λ i. ih i ++ ((or-false (b (key x)) ∙ ap (λ (c : Bool). b (key x) || c) (sym q)) i ∷ [])

  mark_set : (xs : List A) → rises key xs ≡ true → (i : ℕ) → slot_with key xs n ≡ suc i → set (tested in-it xs) i true ≡ tested in-more xs
  unfolding slot_with tested
  mark_set [] up i e = absurd (omega arith)
  mark_set (x ∷ xs) up i e = pick (mark_set xs (rises-rest key x xs up) i) (eqb (key x) n) refl e
    where
      pick : (slot_with key xs n ≡ suc i → set (tested in-it xs) i true ≡ tested in-more xs)
          → (c : Bool) → eqb (key x) n ≡ c → cond c (suc (length xs)) (slot_with key xs n) ≡ suc i
          → set (tested in-it xs ++ (b (key x) ∷ [])) i true ≡ tested in-more xs ++ ((b (key x) || eqb (key x) n) ∷ [])
      pick ih true q e =
          let fresh : member n (map key xs) ≡ false = ap (λ (m : ℕ). member m (map key xs)) (sym (eqb-true (key x) n q)) ∙ rises-fresh key x xs up in
          set_at (tested in-it xs) (b (key x)) [] true i (omega (arith, length-tested in-it xs))
          ∙ (λ j. mark-none xs fresh j ++ ((or-true (b (key x)) ∙ ap (λ (c : Bool). b (key x) || c) (sym q)) j ∷ []))
      pick ih false q e =
          set-append_left (tested in-it xs) (b (key x) ∷ []) i true (omega (arith, length-tested in-it xs, slot-le key xs n))
          ∙ (λ j. ih e j ++ ((or-false (b (key x)) ∙ ap (λ (c : Bool). b (key x) || c) (sym q)) j ∷ []))

-- ---- one item
pub among_one : (e n : ℕ) → some e ≡ true → among (e ∷ []) n ≡ eqb n e
unfolding among member
among_one e n h = pick (eqb n e) refl
  where
    pick : (c : Bool) → eqb n e ≡ c → some n && (c || false) ≡ c
    pick true q = rw (ap some (eqb-true n e q) ∙ h) refl
    pick false q = and-false (some n)

pub among-zero : (n : ℕ) → among (0 ∷ []) n ≡ false
unfolding among member some
among-zero zero = refl
among-zero (suc n) = rw (ne_eqb (suc n) 0 (λ e. omega arith)) (and-false (some (suc n)))

-- ---- marks of rows
module _ (b : ℕ → Bool) where
  -- what the marks say at a slot
  pub mark-read : (rows : List Row) (n i : ℕ) → row_slot rows n ≡ suc i → (marks : List Bool) → marks ≡ slot_marks b rows → get_or marks i false ≡ b n
  unfolding slot_marks row_slot
  mark-read rows n i e marks m =
      ap (λ (l : List Bool). get_or l i false) m ∙ get_d-pad false ROWS (tested (λ r. b r.number) rows) i ∙ mark-at (λ r. r.number) b n rows i e

  module _ (rows : List Row) (e : ℕ) (h : some e ≡ true) (marks : List Bool) (m : marks ≡ slot_marks b rows) where
    abbrev more : ℕ → Bool
    more n = b n || among (e ∷ []) n

    one_more : (r : Row) → b r.number || eqb r.number e ≡ more r.number
    one_more r = ap (λ (c : Bool). b r.number || c) (sym (among_one e r.number h))

    -- one mark more
    pub mark-put : rises (λ r. r.number) rows ≡ true → length rows ≤ ROWS → (i : ℕ) → row_slot rows e ≡ suc i → set marks i true ≡ slot_marks more rows
    unfolding slot_marks row_slot
    mark-put up few i s =
        ap (λ (l : List Bool). set l i true) m
        ∙ set-pad false ROWS (tested (λ r. b r.number) rows) i true
        (omega (arith, length-tested (λ r. b r.number) rows, slot-le (λ r. r.number) rows e))
        ∙ ap (pad false ROWS) (mark_set (λ r. r.number) b e rows up i s ∙ tested_eq _ _ one_more rows)

    -- no row has the number
    pub mark-absent : row_slot rows e ≡ 0 → marks ≡ slot_marks more rows
    unfolding slot_marks row_slot
    mark-absent s = m ∙ ap (pad false ROWS) (mark-none (λ r. r.number) b e rows (slot-none (λ r. r.number) rows e s) ∙ tested_eq _ _ one_more rows)
