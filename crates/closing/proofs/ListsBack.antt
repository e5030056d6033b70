-- The items of a request that closes go back: one of them, and one after the other.
use Prim.Native.Nat.{ℕ, suc, ◌+◌, ◌<◌, ◌≤◌}
use mathlib.Core.Bool.{Bool, true, false, cond, not, ◌&&◌, ◌||◌}
use mathlib.Core.List.{List, [], ◌∷◌, ◌++◌, map, map-id, map-map}
use mathlib.Core.Path.{◌≡◌, refl, ap, sym, subst, ◌∙◌}
use lib.Dec.{eqb}
use borrow.Author.Tests.{eqb-true}
use native.Mathlib.Numerals.{add-one}
use lib.ListN.{length, get_or, take, set, length-map}
use lib.Seq.{take-suc, take_all}
use Rattle.rows.specs.declared.Row.{Row}
use Rattle.rows.specs.Lists.{pad, member, some}
use Rattle.rows.specs.Codes.{in_clist}
use Rattle.rows.specs.Tables.{State, numbers}
use Rattle.rows.specs.vocabulary.Represents.{Represents, change_row}
use Rattle.rows.specs.Layout.{row_slot}
use Rattle.rows.specs.Setters.{with_rows, with_place}
use Rattle.rows.proofs.Bools.{or-fl, or-fr, eqb-sym-f}
use Rattle.rows.proofs.Slots.{represented-well, row-none}
use Rattle.rows.specs.vocabulary.Sizes.{ROWS}
use Rattle.closing.specs.vocabulary.Marks.{RowCount}
use Rattle.closing.specs.vocabulary.Lists.{slot_marks, SlotsMarked, among, back_row, items_back, WentBack}
use Rattle.closing.proofs.ListsMarks.{tested_eq, tested-map, among_one, among-zero, mark-put, mark-absent}

-- ---- rows and marks under a change that keeps numbers
pub back-number : (b : ℕ → Bool) (p : ℕ) (is : List ℕ) (r : Row) → (back_row b p is r).number ≡ r.number
unfolding back_row with_place
back-number b p is r = pick (not (b r.number) && among is r.number)
  where
    pick : (c : Bool) → (cond c (with_place (in_clist p) r) r).number ≡ r.number
    pick true = refl
    pick false = refl

pub marks-map : (b : ℕ → Bool) (h : Row → Row) → ((r : Row) → (h r).number ≡ r.number) → (rows : List Row)
    → slot_marks b (map h rows) ≡ slot_marks b rows
unfolding slot_marks
marks-map b h k rows =
    ap (pad false ROWS) (tested-map (λ r. b r.number) h rows ∙ tested_eq (λ r. b (h r).number) (λ r. b r.number) (λ r. ap b (k r)) rows)

-- ---- one item
or-none : (a c : Bool) → c ≡ false → a || c ≡ a
or-none true c e = refl
or-none false c e = e

and_none : (a c : Bool) → c ≡ false → a && c ≡ false
and_none true c e = e
and_none false c e = refl

module _ (b : ℕ → Bool) (p : ℕ) (is : List ℕ) where
  row_stays : (r : Row) → not (b r.number) && among is r.number ≡ false → back_row b p is r ≡ r
  unfolding back_row
  row_stays r h = ap (λ (c : Bool). cond c (with_place (in_clist p) r) r) h

  -- no row that did not go back is among the items: nothing changes
  back_none : (st : State) → ((r : Row) → not (b r.number) && among is r.number ≡ false) → items_back b p is st ≡ st
  unfolding items_back
  back_none st h =
      let rows = (λ i. map (λ r. row_stays r (h r) i) st.rows) ∙ map-id st.rows in
      λ i. record { rows = rows i; requests = st.requests; processes = st.processes; next = st.next }

-- no row is the item
rows_stay : (b : ℕ → Bool) (p e : ℕ) → some e ≡ true → (rs : List Row) → member e (map (λ r. r.number) rs) ≡ false
    → map (back_row b p (e ∷ [])) rs ≡ rs
unfolding member
rows_stay b p e h [] q = refl
rows_stay b p e h (r ∷ rs) q =
    let other : eqb r.number e ≡ false = eqb-sym-f e r.number (or-fl (eqb e r.number) (member e (map (λ r. r.number) rs)) q) in
    let here = row_stays b p (e ∷ []) r (and_none (not (b r.number)) (among (e ∷ []) r.number) (among_one e r.number h ∙ other)) in
    let ih = rows_stay b p e h rs (or-fr (eqb e r.number) (member e (map (λ r. r.number) rs)) q) in
    λ i. here i ∷ ih i

state-stays : (b : ℕ → Bool) (p e : ℕ) → some e ≡ true → (st : State) → row_slot st.rows e ≡ 0 → items_back b p (e ∷ []) st ≡ st
unfolding items_back numbers
state-stays b p e h st s =
    let rows = rows_stay b p e h st.rows (row-none st.rows e s) in
    λ i. record { rows = rows i; requests = st.requests; processes = st.processes; next = st.next }

module _ (b : ℕ → Bool) (p : ℕ) (st : State) (t : List ℕ) (back : List Bool) (rep : Represents t st) (m : SlotsMarked back b st) where
  -- no item, or none that is a number
  unchanged : (is : List ℕ) → ((n : ℕ) → among is n ≡ false) → WentBack b p is st t back
  unchanged is h =
      record {
        represents = subst (λ (s : State). Represents t s)
            (sym (back_none b p is st (λ r. and_none (not (b r.number)) (among is r.number) (h r.number)))) rep;
        marks = m ∙ (λ i. slot_marks (λ n. sym (or-none (b n) (among is n) (h n)) i) st.rows);
      }

  pub back_start : WentBack b p [] st t back
  unfolding among member
  back_start = unchanged [] (λ n. and_none (some n) false refl)

  pub back-zero : (e : ℕ) → e ≡ 0 → WentBack b p (e ∷ []) st t back
  back-zero e z = unchanged (e ∷ []) (λ n. ap (λ (k : ℕ). among (k ∷ []) n) z ∙ among-zero n)

  module _ (e : ℕ) (h : some e ≡ true) where
    -- no row has the number
    pub back-absent : row_slot st.rows e ≡ 0 → WentBack b p (e ∷ []) st t back
    back-absent s =
        record {
          represents = subst (λ (x : State). Represents t x) (sym (state-stays b p e h st s)) rep;
          marks = mark-absent b st.rows e h back m s;
        }

    -- it went back before
    pub back-before : b e ≡ true → WentBack b p (e ∷ []) st t back
    back-before q =
        record {
          represents = subst (λ (s : State). Represents t s) (sym (back_none b p (e ∷ []) st (λ r. out r.number))) rep;
          marks = m ∙ (λ i. slot_marks (λ n. sym (known n) i) st.rows);
        }
      where
        out : (n : ℕ) → not (b n) && among (e ∷ []) n ≡ false
        out n = rw (among_one e n h) (pick (eqb n e) refl)
          where
            pick : (c : Bool) → eqb n e ≡ c → not (b n) && c ≡ false
            pick true d = rw (ap b (eqb-true n e d) ∙ q) refl
            pick false d = and_none (not (b n)) false refl

        known : (n : ℕ) → b n || among (e ∷ []) n ≡ b n
        known n = rw (among_one e n h) (pick (eqb n e) refl)
          where
            pick : (c : Bool) → eqb n e ≡ c → b n || c ≡ b n
            pick true d = rw (ap b (eqb-true n e d) ∙ q) refl
            pick false d = or-none (b n) false refl

-- it goes back
pub back-now : (b : ℕ → Bool) (p : ℕ) (st : State) (t t' : List ℕ) (back : List Bool) → Represents t st → SlotsMarked back b st
    → (e : ℕ) → some e ≡ true → b e ≡ false → (i : ℕ) → row_slot st.rows e ≡ suc i → Represents t' (change_row e (with_place (in_clist p)) st) → WentBack b p (e ∷ []) st t' (set back i true)
back-now b p st t t' back rep m e h q i s rep' =
    record {
      represents = subst (λ (x : State). Represents t' x) same rep';
      marks = mark-put b st.rows e h back m (represented-well rep).rows-rise (represented-well rep).rows-fit i s;
    }
  where
    goes : (r : Row) → cond (eqb r.number e) (with_place (in_clist p) r) r ≡ back_row b p (e ∷ []) r
    goes r = unfold back_row in rw (among_one e r.number h) (pick (eqb r.number e) refl)
      where
        pick : (c : Bool) → eqb r.number e ≡ c → cond c (with_place (in_clist p) r) r ≡ cond (not (b r.number) && c) (with_place (in_clist p) r) r
        pick true d = rw (ap b (eqb-true r.number e d) ∙ q) refl
        pick false d = ap (λ (c : Bool). cond c (with_place (in_clist p) r) r) (sym (and_none (not (b r.number)) false refl))

    same : change_row e (with_place (in_clist p)) st ≡ items_back b p (e ∷ []) st
    same = unfold change_row items_back in λ i. with_rows (map (λ r. goes r i) st.rows) st

-- ---- one item after the other
member-append : (n : ℕ) (xs ys : List ℕ) → member n (xs ++ ys) ≡ member n xs || member n ys
unfolding member
member-append n [] ys = refl
member-append n (x ∷ xs) ys = rw (member-append n xs ys) (pick (eqb n x))
  where
    pick : (c : Bool) → c || (member n xs || member n ys) ≡ (c || member n xs) || member n ys
    pick true = refl
    pick false = refl

among-append : (xs ys : List ℕ) (n : ℕ) → among (xs ++ ys) n ≡ among xs n || among ys n
unfolding among
among-append xs ys n = rw (member-append n xs ys) (pick (some n))
  where
    pick : (c : Bool) → c && (member n xs || member n ys) ≡ (c && member n xs) || (c && member n ys)
    pick true = refl
    pick false = refl

module _ (b : ℕ → Bool) (p : ℕ) (xs ys : List ℕ) where
  -- what went back with the first items stays where it is
  row_step : (r : Row) → back_row (λ n. b n || among xs n) p ys (back_row b p xs r) ≡ back_row b p (xs ++ ys) r
  unfolding back_row
  row_step r =
      ap (λ (n : ℕ). cond (not (b n || among xs n) && among ys n) (with_place (in_clist p) (back_row b p xs r)) (back_row b p xs r)) (back-number b p xs r)
      ∙ pick (b r.number) (among xs r.number) (among ys r.number)
      ∙ ap (λ (c : Bool). cond (not (b r.number) && c) (with_place (in_clist p) r) r) (sym (among-append xs ys r.number))
    where
      pick : (c x y : Bool)
          → cond (not (c || x) && y) (with_place (in_clist p) (cond (not c && x) (with_place (in_clist p) r) r)) (cond (not c && x) (with_place (in_clist p) r) r)
          ≡ cond (not c && (x || y)) (with_place (in_clist p) r) r
      pick true x y = refl
      pick false true y = refl
      pick false false y = refl

  pub state-step : (st : State) → items_back (λ n. b n || among xs n) p ys (items_back b p xs st) ≡ items_back b p (xs ++ ys) st
  unfolding items_back
  state-step st =
      let rows = map-map (back_row (λ n. b n || among xs n) p ys) (back_row b p xs) st.rows ∙ (λ i. map (λ r. row_step r i) st.rows) in
      λ i. record { rows = rows i; requests = st.requests; processes = st.processes; next = st.next }

  marks-step : (st : State)
      → slot_marks (λ n. (b n || among xs n) || among ys n) (items_back b p xs st).rows ≡ slot_marks (λ n. b n || among (xs ++ ys) n) st.rows
  unfolding items_back
  marks-step st =
      marks-map (λ n. (b n || among xs n) || among ys n) (back_row b p xs) (back-number b p xs) st.rows
      ∙ (λ i. slot_marks (λ n. (or_assoc (b n) (among xs n) (among ys n) ∙ ap (λ (c : Bool). b n || c) (sym (among-append xs ys n))) i) st.rows)
    where
      or_assoc : (a c d : Bool) → (a || c) || d ≡ a || (c || d)
      or_assoc true c d = refl
      or_assoc false c d = refl

  pub back_step : (st : State) (t : List ℕ) (back : List Bool)
      → WentBack (λ n. b n || among xs n) p ys (items_back b p xs st) t back → WentBack b p (xs ++ ys) st t back
  back_step st t back w =
      record {
        represents = subst (λ (s : State). Represents t s) (state-step st) w.represents;
        marks = w.marks ∙ marks-step st;
      }

-- ---- the loop over the items
module _ (b : ℕ → Bool) (p : ℕ) (st : State) where
  -- the changed state has as many rows, and the same marks
  pub back_count : (xs : List ℕ) (n : ℕ) → RowCount n st → RowCount n (items_back b p xs st)
  unfolding items_back
  back_count xs n e = e ∙ sym (length-map st.rows (back_row b p xs))

  pub back-marks : (xs : List ℕ) (t : List ℕ) (back : List Bool) → WentBack b p xs st t back
      → SlotsMarked back (λ n. b n || among xs n) (items_back b p xs st)
  unfolding items_back
  back-marks xs t back w = w.marks ∙ sym (marks-map (λ n. b n || among xs n) (back_row b p xs) (back-number b p xs) st.rows)

  pub back-turn : (items : List ℕ) (k : ℕ) → k < length items → (t : List ℕ) (back : List Bool)
      → WentBack (λ n. b n || among (take k items) n) p (get_or items k 0 ∷ []) (items_back b p (take k items) st) t back
      → WentBack b p (take (k + 1) items) st t back
  back-turn items k h t back w =
      subst (λ (l : List ℕ). WentBack b p l st t back) (sym (ap (λ (j : ℕ). take j items) (add-one k) ∙ take-suc items k 0 h))
      (back_step b p (take k items) (get_or items k 0 ∷ []) st t back w)

  pub back_end : (items : List ℕ) (k : ℕ) → length items ≤ k → (t : List ℕ) (back : List Bool)
      → WentBack b p (take k items) st t back → WentBack b p items st t back
  back_end items k h t back w = subst (λ (l : List ℕ). WentBack b p l st t back) (take_all k items h) w
