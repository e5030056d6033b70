-- Soundness of the process records and of the next number, as the loops and look-ups of the code say it.
use Prim.Native.Nat.{ℕ, zero, suc, ◌+◌, ◌-◌, ◌^◌, ◌<◌, ◌≤◌}
use mathlib.Core.Bool.{Bool, true, false, ◌&&◌}
use mathlib.Core.List.{List, [], ◌∷◌}
use mathlib.Core.Path.{◌≡◌, refl, ap, sym, ◌∙◌}
use native.Mathlib.Nat.{le_of_suc-le-suc}
use native.Mathlib.Numerals.{add-one}
use native.Mathlib.Omega.{arith}
use borrow.Author.Tests.{ne_eqb, ltb-true}
use lib.Dec.{eqb, ltb}
use lib.ListN.{length, get_or, take, drop}
use lib.Seq.{get_or-take, get_or-drop, take_all}
use Rattle.rows.specs.declared.Row.{Row}
use Rattle.rows.specs.declared.Request.{Request}
use Rattle.rows.specs.declared.Process.{Process}
use Rattle.rows.specs.Lists.{all, top_of, some}
use Rattle.rows.specs.Codes.{subdirectory, is_subdirectory, in_clist}
use Rattle.rows.specs.Tables.{State, no_row, row_of}
use Rattle.rows.specs.Limits.{greatest_number}
use Rattle.rows.specs.Sound.{below_next, next_in_range, process_placed, placed_from}
use Rattle.rows.specs.vocabulary.Represents.{Represents}
use Rattle.rows.specs.Layout.{row_slot, raw_row}
use Rattle.rows.specs.Setters.{with_sources}
use Rattle.rows.specs.vocabulary.Slots.{slotted}
use Rattle.soundness.specs.vocabulary.Laid.{before}
use Rattle.rows.proofs.Bools.{and-true, and_i, and_l, and_r, bool_eq, or-false, pos-some}
use Rattle.rows.proofs.Keyed.{first-none}
use Rattle.rows.proofs.Places.{range-between}
use Rattle.rows.proofs.Slots.{slot-none, represented-well, row-words-at, raw-row, request-words-at}

-- ---- the next number
pub before_last : (l : List ℕ) (k : ℕ) → (k ≡ 0 → ⊥) → get_or l (k - 1) 0 ≡ before l k
unfolding before
before_last l zero h = absurd (h refl)
before_last l (suc k) h = ap (λ (i : ℕ). get_or l i 0) (omega arith)

module _ {st : State} {t : List ℕ} (rep : Represents t st) where
  -- the word before slot k of a column of keys is the newest key
  top-before : {A : Type 0} (key : A → ℕ) (xs : List A) (a w k : ℕ) → k ≡ length xs → k ≤ w
      → ((x : A) (older : List A) → xs ≡ x ∷ older → get_or t (a + length older) 0 ≡ key x) → before (take w (drop a t)) k ≡ top_of key xs
  unfolding before top_of
  top-before key [] a w zero e h word = refl
  top-before key [] a w (suc k) e h word = absurd (omega arith)
  top-before key (x ∷ xs) a w zero e h word = absurd (omega arith)
  top-before key (x ∷ xs) a w (suc k) e h word =
      get_or-take w (drop a t) k 0 h ∙ get_or-drop a t k 0 ∙ ap (λ (i : ℕ). get_or t (a + i) 0) (omega arith) ∙ word x xs refl

  pub top-row : (n : ℕ) → n ≡ length st.rows → before (take 1024 (drop 0 t)) n ≡ top_of (λ r. r.number) st.rows
  top-row n e =
      top-before (λ r. r.number) st.rows 0 1024 n e (omega (arith, (represented-well rep).rows-fit))
      (λ r older d. let z : 0 + length older ≡ length older = omega arith in ap (λ (i : ℕ). get_or t i 0) z ∙ (row-words-at rep [] r older d).number)

  pub top-request : (m : ℕ) → m ≡ length st.requests → before (take 128 (drop 10240 t)) m ≡ top_of (λ v. v.number) st.requests
  top-request m e =
      top-before (λ v. v.number) st.requests 10240 128 m e (omega (arith, (represented-well rep).requests-fit)) (λ v older d. (request-words-at rep [] v older d).number)

-- what is above a number is not 0, and no word is above the greatest next number
pub below-in-range : (next : ℕ) (rows : List Row) (requests : List Request) → next < 2 ^ 32 → below_next next rows requests ≡ next_in_range next && below_next next rows requests
unfolding below_next next_in_range greatest_number
below-in-range next rows requests word = bool_eq below (next_in_range next && below) (λ b. and_i (next_in_range next) below (in-range b) b) (and_r (next_in_range next) below)
  where
    top : ℕ
    top = top_of (λ r. r.number) rows

    below : Bool
    below = below_next next rows requests

    in-range : below ≡ true → next_in_range next ≡ true
    in-range b = let above = ltb-true top next (and_l (ltb top next) (ltb (top_of (λ v. v.number) requests) next) b) in range-between 1 (suc greatest_number) next (omega arith) (omega arith)

-- ---- records one after the other
and_assoc : (a b c : Bool) → a && (b && c) ≡ (a && b) && c
and_assoc true b c = refl
and_assoc false b c = refl

all-taken : {A : Type 0} (f : A → Bool) (none : A) (xs : List A) (i : ℕ) → i < length xs → all f (take (suc i) xs) ≡ all f (take i xs) && f (get_or xs i none)
unfolding all
all-taken f none [] i h = absurd (omega arith)
all-taken f none (x ∷ xs) zero h = and-true (f x)
all-taken f none (x ∷ xs) (suc i) h = rw (all-taken f none xs i (le_of_suc-le-suc h)) (and_assoc (f x) (all f (take i xs)) (f (get_or xs i none)))

pub all_more : {A : Type 0} (f : A → Bool) (none : A) (xs : List A) (i : ℕ) → i < length xs → all f (take (i + 1) xs) ≡ all f (take i xs) && f (get_or xs i none)
all_more f none xs i h = rw add-one (all-taken f none xs i h)

pub taken-all : {A : Type 0} (xs : List A) (i n : ℕ) → length xs ≡ n → n ≤ i → take i xs ≡ xs
taken-all xs i n e h = take_all i xs (omega arith)

placed-taken : (rs : List Row) (none : Process) (p : ℕ) (xs : List Process) (i : ℕ) → i < length xs
    → placed_from rs p (take (suc i) xs) ≡ placed_from rs p (take i xs) && process_placed rs (i + p) (get_or xs i none)
unfolding placed_from
placed-taken rs none p [] i h = absurd (omega arith)
placed-taken rs none p (x ∷ xs) zero h = and-true (process_placed rs p x) ∙ ap (λ (q : ℕ). process_placed rs q x) (omega arith)
placed-taken rs none p (x ∷ xs) (suc i) h =
    let e : i + suc p ≡ suc i + p = omega arith in
    rw (placed-taken rs none (suc p) xs i (le_of_suc-le-suc h), e)
    (and_assoc (process_placed rs p x) (placed_from rs (suc p) (take i xs)) (process_placed rs (suc i + p) (get_or xs i none)))

pub placed-more : (rs : List Row) (none : Process) (xs : List Process) (i : ℕ) → i < length xs
    → placed_from rs 1 (take (i + 1) xs) ≡ placed_from rs 1 (take i xs) && process_placed rs (i + 1) (get_or xs i none)
placed-more rs none xs i h = ap (λ (k : ℕ). placed_from rs 1 (take k xs)) (add-one i) ∙ placed-taken rs none 1 xs i h

-- ---- one process's record
pub placed-prime : (rs : List Row) (q : ℕ) (x : Process) → x.through ≡ 0 → eqb x.active x.prime ≡ process_placed rs q x
unfolding process_placed some
placed-prime rs q x e = rw e (sym (or-false (eqb x.active x.prime)))

module _ (st : State) (q : ℕ) (x : Process) (gone : x.through ≡ 0 → ⊥) where
  placed-there : process_placed st.rows q x
      ≡ is_subdirectory (row_of st.rows x.through).kind
      && (eqb (row_of st.rows x.through).place (in_clist q) && eqb (row_of st.rows x.through).object x.active)
  unfolding process_placed
  placed-there = rw (ne_eqb x.through 0 gone, pos-some x.through (pos x.through gone)) refl
    where
      pos : (m : ℕ) → (m ≡ 0 → ⊥) → 0 < m
      pos m h = omega arith

  pub placed-nowhere : row_slot st.rows x.through ≡ 0 → false ≡ process_placed st.rows q x
  unfolding row_slot row_of no_row is_subdirectory subdirectory
  placed-nowhere e = sym (placed-there ∙ rw (first-none (λ r. r.number) no_row st.rows x.through (slot-none (λ r. r.number) st.rows x.through e)) refl)

  pub placed_at : {t : List ℕ} → Represents t st → (i : ℕ) (w : Row) → row_slot st.rows x.through ≡ suc i → w ≡ raw_row t i
      → eqb w.kind 2 && (eqb w.place (in_clist q) && eqb w.object x.active) ≡ process_placed st.rows q x
  unfolding is_subdirectory subdirectory slotted with_sources
  placed_at rep i w e d = rw (d ∙ raw-row rep x.through i e) (sym placed-there)
