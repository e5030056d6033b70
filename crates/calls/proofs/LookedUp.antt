-- What the look-ups find: the slot of a row that is in a place, source words, depths.
use Prim.Native.Nat.{ℕ, zero, suc, ◌+◌, ◌-◌, ◌≤◌}
use mathlib.Core.Bool.{Bool, true, false, cond, ◌&&◌}
use mathlib.Core.List.{List, []}
use mathlib.Core.Path.{◌≡◌, refl, ap, sym, ◌∙◌}
use native.Mathlib.Omega.{arith}
use borrow.Author.Tests.{eq-eqb, ne_eqb}
use lib.Dec.{eqb}
use lib.ListN.{get_or}
use Rattle.std.specs.Prelude.{Option}
use Rattle.std.specs.Prelude.{Some, None}
use Rattle.rows.specs.Lists.{some}
use Rattle.rows.specs.Codes.{subdirectory, is_subdirectory}
use Rattle.rows.specs.Tables.{State, no_row, row_of, reaches, lent_itself, is_lent}
use Rattle.rows.specs.Sound.{sound}
use Rattle.rows.specs.Layout.{row_slot}
use Rattle.rows.specs.vocabulary.Represents.{Represents}
use Rattle.rows.specs.vocabulary.Slots.{found_slot}
use Rattle.rows.proofs.Slots.{found_at, row-words, row-absent, row-none, row-found, represented-well, source-of, slot-zero}
use Rattle.rows.proofs.Bools.{and-rf, pos-some}
use Rattle.tables.proofs.Sound.{sound-open}
use Rattle.tables.proofs.SoundFacts.{row_below}
use Rattle.tables.proofs.Standing.{depth_falls}
use Rattle.questions.proofs.Questions.{reaches-none}
use Rattle.calls.specs.vocabulary.Lookups.{slot_in, NotTooDeep}

-- ---- a row in a place
module _ (st : State) (place e : ℕ) where
  pub in-absent : row_slot st.rows e ≡ 0 → None ≡ slot_in st place e
  unfolding slot_in found_slot
  in-absent s = rw s (pick (eqb (row_of st.rows e).place place))
    where
      pick : (b : Bool) → ◌≡◌ {A = Option ℕ} None (cond b None None)
      pick true = refl
      pick false = refl

  pub in_place : (i : ℕ) → row_slot st.rows e ≡ suc i → (row_of st.rows e).place ≡ place → Some i ≡ slot_in st place e
  unfolding slot_in found_slot
  in_place i s h = rw (eq-eqb (row_of st.rows e).place place h, s) refl

  pub elsewhere : ((row_of st.rows e).place ≡ place → ⊥) → None ≡ slot_in st place e
  unfolding slot_in
  elsewhere h = rw (ne_eqb (row_of st.rows e).place place h) refl

  -- what is found is in the place, and stands in the slot
  pub found_in : (r : Option ℕ) (i : ℕ) → r ≡ slot_in st place e → r ≡ Some i → (row_slot st.rows e ≡ suc i) × (eqb (row_of st.rows e).place place ≡ true)
  unfolding slot_in
  found_in r i f a = pick (eqb (row_of st.rows e).place place) refl f
    where
      pick : (b : Bool) → eqb (row_of st.rows e).place place ≡ b → r ≡ cond b (found_slot (row_slot st.rows e)) None → (row_slot st.rows e ≡ suc i) × (b ≡ true)
      pick true q f = (found_at (row_slot st.rows e) i f a, refl)
      pick false q f = let z : ◌≡◌ {A = ℕ} 0 1 = cc in absurd (omega arith)

-- ---- depths
module _ (t : List ℕ) (st : State) (e : ℕ) where
  pub depth-absent : row_slot st.rows e ≡ 0 → 0 ≡ (row_of st.rows e).depth
  unfolding no_row
  depth-absent s = rw (row-absent st.rows e s) refl

  pub depth-word : (s : ℕ) → Represents t st → row_slot st.rows e ≡ s → (s ≡ 0 → ⊥) → get_or t (8192 + (s - 1)) 0 ≡ (row_of st.rows e).depth
  depth-word zero rep h ne = absurd (ne refl)
  depth-word (suc i) rep h ne = ap (λ (k : ℕ). get_or t (8192 + k) 0) (omega arith) ∙ (row-words rep e i h).depth

-- no row is deeper than 12
pub depth-most : (st : State) → sound st ≡ true → (e : ℕ) → NotTooDeep st e
depth-most st sd e = pick (row_slot st.rows e) refl
  where
    pick : (s : ℕ) → row_slot st.rows e ≡ s → (row_of st.rows e).depth ≤ 12
    pick zero h = let z = depth-absent [] st e h in omega arith
    pick (suc i) h = (depth_falls st (sound-open st sd).numbers (sound-open st sd).rows e (row-found st.rows e i h).0).2

-- the first source of a row, as its words have it
module _ {t : List ℕ} {st : State} (rep : Represents t st) (e i : ℕ) (s : row_slot st.rows e ≡ suc i) where
  pub source-read : (get_or t (6144 + i) 0 ≡ row_slot st.rows (row_of st.rows e).source) × (get_or t (6144 + i) 0 ≤ i)
  source-read =
      let (same, low) = source-of st (represented-well rep) e i s in
      let word = (row-words rep e i s).source in (word ∙ same, omega arith)

-- ---- lent rows
-- no row is not lent; one that stands has a number
pub lent_none : (st : State) (x : ℕ) → sound st ≡ true → row_slot st.rows x ≡ 0 → false ≡ some x && is_lent st x
unfolding is_lent
lent_none st x sd s = sym (and-rf (some x) (reaches (lent_itself st.requests) st.rows x) (reaches-none st (sound-open st sd) (lent_itself st.requests) x (row-none st.rows x s)))

pub lent_row : (st : State) (x : ℕ) → sound st ≡ true → (i : ℕ) → row_slot st.rows x ≡ suc i → is_lent st x ≡ some x && is_lent st x
lent_row st x sd i s =
    let (lo, hi) = row_below st (sound-open st sd).numbers x (row-found st.rows x i s).0 in
    rw (pos-some x lo) refl

-- a test of what is no subdirectory; of a subdirectory
module _ (st : State) (s : ℕ) (b : Bool) where
  pub no-directory : ((row_of st.rows s).kind ≡ 2 → ⊥) → false ≡ is_subdirectory (row_of st.rows s).kind && b
  unfolding is_subdirectory subdirectory
  no-directory h = rw (ne_eqb (row_of st.rows s).kind 2 h) refl

  pub directory : (row_of st.rows s).kind ≡ 2 → b ≡ is_subdirectory (row_of st.rows s).kind && b
  unfolding is_subdirectory subdirectory
  directory h = rw (eq-eqb (row_of st.rows s).kind 2 h) refl

-- no row has number 0
pub zero_word : {t : List ℕ} {st : State} → Represents t st → row_slot st.rows 0 ≡ 0
unfolding row_slot
zero_word {t} {st} rep = slot-zero (λ r. r.number) st.rows (represented-well rep).rows-rise
