-- Words set to 0 in columns that stand one after the other: one row in all of them, and rows one after the other.
use Prim.Native.Nat.{ℕ, zero, suc, ◌+◌, ◌*◌, ◌<◌, ◌≤◌, zero-le}
use mathlib.Core.List.{List, ◌++◌}
use mathlib.Core.Path.{◌≡◌, refl, ap, sym, subst, ◌∙◌}
use mathlib.Core.Logic.{⊎_elim}
use native.Mathlib.Nat.{le_refl, le_of_lt, le-add_right, eq-or-lt_of_le, suc-mul}
use native.Mathlib.Omega.{arith}
use lib.ListN.{length, take, drop, set, take-append-drop}
use lib.Seq.{take_all, take-add, take-set-le, take-set-lt, drop-set-add, drop-set-lt}
use Rattle.changes.specs.vocabulary.Marks.{cleared, on_parts, part}
use Rattle.changes.proofs.Keep.{clear-start, clear-turn}
use Rattle.changes.proofs.Slide.{length-cleared}
use Rattle.changes.proofs.Parts.{back, part_end, part-long, part_of, parts_same, Changed, changed-start, length-parts, changed-long, changed-turn, changed-end, cleared-keeps}

-- ---- one column
cleared-none : (from : ℕ) (l : List ℕ) → from ≤ length l → cleared from from l ≡ l
unfolding cleared
cleared-none from l h = sym (clear-start 0 l from h)

cleared-one : (i : ℕ) (l : List ℕ) → i < length l → set l i 0 ≡ cleared i (i + 1) l
unfolding cleared
cleared-one i l h = clear-turn 0 l i (le_of_lt h) l i (le_refl i) h (clear-start 0 l i (le_of_lt h))

cleared_more : (from i : ℕ) (l : List ℕ) → from ≤ i → i < length l → cleared i (i + 1) (cleared from i l) ≡ cleared from (i + 1) l
unfolding cleared
cleared_more from i l h room =
    sym (cleared-one i (cleared from i l) (omega (arith, length-cleared from i l h (le_of_lt room))))
    ∙ clear-turn 0 l from (omega arith) (cleared from i l) i h room refl

-- ---- the loop over the words of one row
-- a word set in the part of k words from the a-th on
set-part : (a k i w : ℕ) (l : List ℕ) → i < k → set l (a + i) w ≡ back a k l (set (take k (drop a l)) i w)
set-part a k i w l h =
    let front : List ℕ = take a l in
    sym (take-append-drop a (set l (a + i) w))
    ∙ ap (λ (t : List ℕ). t ++ drop a (set l (a + i) w)) (take-set-le a l (a + i) w (le-add_right a i))
    ∙ ap (λ (t : List ℕ). front ++ t) (drop-set-add a l i w ∙ sym (take-append-drop k (set (drop a l) i w)))
    ∙ ap (λ (t : List ℕ). front ++ (t ++ drop k (set (drop a l) i w))) (take-set-lt k (drop a l) i w h)
    ∙ ap (λ (t : List ℕ). front ++ (set (take k (drop a l)) i w ++ t)) (drop-set-lt k (drop a l) i w h)

-- the row is 0 in the first parts, and k is where it stands in the next
pub record RowCleared (size columns row : ℕ) (l₀ l : List ℕ) (k : ℕ) : Type 0 where
  pub parts : ℕ
  pub within : parts ≤ columns
  pub next : k ≡ parts * size + row
  pub changed : Changed (cleared row (row + 1)) size l₀ l parts

pub row-start : (size columns row : ℕ) (l : List ℕ) → RowCleared size columns row l l row
row-start size columns row l =
    record { parts = 0; within = zero-le; next = omega arith; changed = changed-start (cleared row (row + 1)) size l }

-- there is another part
pub row-left : (size columns row : ℕ) (l₀ l : List ℕ) (k : ℕ) (r : RowCleared size columns row l₀ l k) → k < columns * size → r.parts < columns
row-left size columns row l₀ l k r h =
    ⊎_elim (λ (e : r.parts ≡ columns). absurd (omega (arith, r.next, ap (λ (x : ℕ). x * size) e))) (λ lt. lt) (eq-or-lt_of_le r.within)

module _ (size columns row : ℕ) (fits : row < size) (l₀ l : List ℕ) (long : length l₀ ≡ columns * size) (k : ℕ) (r : RowCleared size columns row l₀ l k) where
  pub row-turn : k < columns * size → RowCleared size columns row l₀ (set l k 0) (k + size)
  row-turn h =
      let c : ℕ = r.parts in
      let clears : List ℕ → List ℕ = cleared row (row + 1) in
      let keeps = cleared-keeps size row (row + 1) (le-add_right row 1) (omega arith) in
      let left : c < columns = row-left size columns row l₀ l k r h in
      let room : c * size + size ≤ length l₀ = omega (arith, part_end size c columns left) in
      let here = cleared-one row (part size l c) (omega (arith, changed-long clears size l₀ l c room (length-parts clears size keeps l₀ c (omega arith)) r.changed)) in
      record {
        parts = c + 1;
        within = omega arith;
        next = omega (arith, r.next, suc-mul c size);
        changed =
            subst (λ (t : List ℕ). Changed clears size l₀ t (c + 1)) (sym (ap (λ (x : ℕ). set l x 0) r.next ∙ set-part (c * size) size row 0 l fits))
            (changed-turn clears size l₀ l c room (length-parts clears size keeps l₀ c (omega arith)) r.changed (set (part size l c) row 0) here);
      }

  pub row-end : columns * size ≤ k → l ≡ on_parts (cleared row (row + 1)) size columns l₀
  row-end h =
      let e : r.parts ≡ columns =
      ⊎_elim (λ q. q) (λ (lt : r.parts < columns). absurd (omega (arith, r.next, part_end size r.parts columns lt))) (eq-or-lt_of_le r.within) in
      changed-end (cleared row (row + 1)) size l₀ l columns (subst (Changed (cleared row (row + 1)) size l₀ l) e r.changed) long

-- ---- the loop over the rows
-- parts that f leaves as they are
parts_stay : (f : List ℕ → List ℕ) (k m : ℕ) (l : List ℕ) → ((c : ℕ) → c < m → f (part k l c) ≡ part k l c) → take (m * k) l ≡ on_parts f k m l
unfolding on_parts
parts_stay f k zero l h = let e : 0 * k ≡ 0 = omega arith in ap (λ (i : ℕ). take i l) e
parts_stay f k (suc m) l h =
    ap (λ (i : ℕ). take i l) (suc-mul m k)
    ∙ take-add (m * k) k l
    ∙ ap (λ (t : List ℕ). t ++ part k l m) (parts_stay f k m l (λ c lt. h c (omega arith)))
    ∙ ap (λ (t : List ℕ). on_parts f k m l ++ t) (sym (h m (omega arith)))

module _ (k m from : ℕ) (l₀ : List ℕ) (long : length l₀ ≡ m * k) where
  long-part : (c : ℕ) → c < m → length (part k l₀ c) ≡ k
  long-part c lt = part-long (c * k) k l₀ (omega (arith, part_end k c m lt))

  pub rows_start : from ≤ k → l₀ ≡ on_parts (cleared from from) k m l₀
  rows_start h =
      sym (take_all (m * k) l₀ (omega arith))
      ∙ parts_stay (cleared from from) k m l₀ (λ c lt. cleared-none from (part k l₀ c) (omega (arith, long-part c lt)))

  pub rows-turn : (i : ℕ) → from ≤ i → i < k → (l l' : List ℕ) → l ≡ on_parts (cleared from i) k m l₀ → l' ≡ on_parts (cleared i (i + 1)) k m l
      → l' ≡ on_parts (cleared from (i + 1)) k m l₀
  rows-turn i h fits l l' e e' =
      e'
      ∙ parts_same (cleared i (i + 1)) (cleared from (i + 1)) k m l l₀
      (λ c lt.
      ap (λ (t : List ℕ). cleared i (i + 1) (part k t c)) e
      ∙ ap (cleared i (i + 1)) (part_of (cleared from i) k (cleared-keeps k from i h (le_of_lt fits)) l₀ m c lt (omega arith))
      ∙ cleared_more from i (part k l₀ c) h (omega (arith, long-part c lt)))
