-- A pass that marks one slot more, over any list, newest first: what is marked, and what the element at a slot is.
use Prim.Native.Nat.{ℕ, zero, suc, ◌+◌, ◌<◌}
use mathlib.Core.Bool.{Bool, true, false}
use mathlib.Core.List.{List, [], ◌∷◌, ◌++◌, map}
use mathlib.Core.Path.{◌≡◌, refl, ap, sym, ◌∙◌}
use native.Mathlib.Nat.{not-suc-le-zero, le_of_suc-le-suc}
use native.Mathlib.Omega.{arith}
use lib.ListN.{length, set, replicate}
use lib.Seq.{append_snoc}
use Rattle.rows.specs.Lists.{first_with, rises, member, pad}
use Rattle.rows.proofs.Keyed.{rises-rest, rises-older}
use Rattle.rows.proofs.Agree.{first-here, first-older}
use Rattle.rows.proofs.Slots.{slot-member, slot-number}
use Rattle.changes.specs.vocabulary.Marks.{tested}
use Rattle.changes.proofs.Keep.{length-tested}

-- ---- the element at a slot, by its key
module _ {A : Type 0} (key : A → ℕ) where
  pub member-cut : (new : List A) (x : A) (old : List A) → rises key (new ++ (x ∷ old)) ≡ true → member (key x) (map key (new ++ (x ∷ old))) ≡ true
  member-cut new x old up = slot-member key (new ++ (x ∷ old)) (key x) (length old) (slot-number key new x old up)

  pub first-cut : (none : A) (new : List A) (x : A) (old : List A) → rises key (new ++ (x ∷ old)) ≡ true
      → first_with key none (new ++ (x ∷ old)) (key x) ≡ x
  first-cut none [] x old up = first-here key none x old
  first-cut none (y ∷ new) x old up =
      let up' : rises key (new ++ (x ∷ old)) ≡ true = rises-rest key y (new ++ (x ∷ old)) up in
      first-older key none y (new ++ (x ∷ old)) (key x) (rises-older key y (new ++ (x ∷ old)) up (key x) (member-cut new x old up'))
      ∙ first-cut none new x old up'

-- ---- marks
pub pad-none : (k : ℕ) → replicate k false ≡ pad false k []
unfolding pad
pad-none zero = refl
pad-none (suc k) = ap (λ (l : List Bool). false ∷ l) (pad-none k)

set_next : (k : ℕ) (l : List Bool) (b : Bool) → length l < k → set (pad false k l) (length l) b ≡ pad false k (l ++ (b ∷ []))
unfolding pad
set_next zero l b h = absurd (not-suc-le-zero h)
set_next (suc k) [] b h = refl
set_next (suc k) (x ∷ l) b h = ap (λ (r : List Bool). x ∷ r) (set_next k l b (le_of_suc-le-suc h))

pad-false : (k : ℕ) (l : List Bool) → length l < k → pad false k (l ++ (false ∷ [])) ≡ pad false k l
unfolding pad
pad-false zero l h = absurd (not-suc-le-zero h)
pad-false (suc k) [] h = refl
pad-false (suc k) (x ∷ l) h = ap (λ (r : List Bool). x ∷ r) (pad-false k l (le_of_suc-le-suc h))

-- ---- the pass: of k slots, those of the i oldest elements are marked, however the list is cut there
module _ {A : Type 0} (f : A → Bool) (k : ℕ) (xs : List A) where
  abbrev pub MarkedTo : ℕ → List Bool → Type 0
  MarkedTo i ms = (new old : List A) → xs ≡ new ++ old → length old ≡ i → ms ≡ pad false k (tested f old)

  pub marked_start : (ms : List Bool) → ms ≡ pad false k [] → MarkedTo 0 ms
  unfolding tested
  marked_start ms none new [] cut long = none
  marked_start ms none new (x ∷ old) cut long = absurd (omega arith)

  pub marked_turn : (i : ℕ) (ms : List Bool) (b : Bool) → i < k → MarkedTo i ms
      → ((new : List A) (x : A) (old : List A) → xs ≡ new ++ (x ∷ old) → length old ≡ i → ms ≡ pad false k (tested f old) → b ≡ f x)
      → MarkedTo (i + 1) (set ms i b)
  unfolding tested
  marked_turn i ms b h ih here new [] cut long = absurd (omega arith)
  marked_turn i ms b h ih here new (x ∷ old) cut long =
      let long' : length old ≡ i = omega arith in
      let so_far : ms ≡ pad false k (tested f old) = ih (new ++ (x ∷ [])) old (cut ∙ sym (append_snoc new x old)) long' in
      let at : length (tested f old) ≡ i = length-tested f old ∙ long' in
      ap (λ (l : List Bool). set l i b) so_far
      ∙ ap (λ (j : ℕ). set (pad false k (tested f old)) j b) (sym at)
      ∙ set_next k (tested f old) b (omega arith)
      ∙ ap (λ (c : Bool). pad false k (tested f old ++ (c ∷ []))) (here new x old cut long' so_far)

  -- a slot that is not marked stays so
  pub marked-left : (i : ℕ) (ms : List Bool) → i < k → MarkedTo i ms
      → ((new : List A) (x : A) (old : List A) → xs ≡ new ++ (x ∷ old) → length old ≡ i → f x ≡ false) → MarkedTo (i + 1) ms
  unfolding tested
  marked-left i ms h ih here new [] cut long = absurd (omega arith)
  marked-left i ms h ih here new (x ∷ old) cut long =
      let long' : length old ≡ i = omega arith in
      ih (new ++ (x ∷ [])) old (cut ∙ sym (append_snoc new x old)) long'
      ∙ sym (ap (λ (b : Bool). pad false k (tested f old ++ (b ∷ []))) (here new x old cut long') ∙ pad-false k (tested f old) (omega (arith, length-tested f old)))

  pub marked-end : (i : ℕ) (ms : List Bool) → length xs ≡ i → MarkedTo i ms → ms ≡ pad false k (tested f xs)
  marked-end i ms e d = d [] xs refl e
