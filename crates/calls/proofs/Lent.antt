-- Items lent one after the other: the rows of the state keep their slots; an end lent, a copy lent, all items.
use Prim.Native.Nat.{ℕ, suc, ◌+◌, ◌<◌, ◌≤◌}
use mathlib.Core.Bool.{Bool, true, false, cond}
use mathlib.Core.List.{List, [], ◌∷◌, ◌++◌, map}
use mathlib.Core.Path.{◌≡◌, refl, ap, sym, ◌∙◌}
use native.Mathlib.Omega.{arith}
use native.Mathlib.Numerals.{add-one}
use borrow.Author.Tests.{ne_eqb}
use lib.Dec.{eqb}
use lib.ListN.{length, get_or, drop, set, length-map, length-append, drop_of_length-le}
use lib.Seq.{drop-cons}
use Rattle.rows.specs.declared.Row.{Row}
use Rattle.rows.specs.declared.Request.{Request}
use Rattle.rows.specs.Lists.{filter, some, first_with, slot_with, top_of, rises, pad}
use Rattle.rows.specs.Limits.{most_items}
use Rattle.rows.specs.Codes.{with_system}
use Rattle.rows.specs.Tables.{State, no_row, row_of, numbers, depth_over}
use Rattle.rows.specs.Setters.{with_rows, with_requests, with_next, with_place}
use Rattle.rows.specs.Sound.{sound}
use Rattle.rows.specs.Layout.{row_slot}
use Rattle.rows.specs.vocabulary.Represents.{Represents, change_row}
use Rattle.rows.proofs.Keyed.{rises-range}
use Rattle.rows.proofs.Slots.{represented-well, row-found}
use Rattle.tables.proofs.Sound.{sound-open}
use Rattle.tables.proofs.SoundFacts.{rows-top}
use Rattle.changes.proofs.Put.{set-pad-end}
use Rattle.calls.specs.declared.Item.{Item}
use Rattle.calls.specs.declared.ItemRow.{ItemRow}
use Rattle.calls.specs.declared.Loan.{Loan}
use Rattle.calls.specs.declared.NewCopy.{NewCopy}
use Rattle.calls.specs.declared.NewRequest.{NewRequest}
use Rattle.calls.specs.Rules.{copy_of}
use Rattle.calls.specs.Loans.{item_row, moves, copy_depth, copy_lent, Lending, to_system, lend_end, lend_copy, lend_item, lend_items, lent, new_request, with_request}
use Rattle.calls.specs.vocabulary.Lookups.{StandsAt}
use Rattle.calls.specs.vocabulary.Effects.{copy_as}
use Rattle.calls.specs.vocabulary.Asks.{items_in, named_in, lend_named, KeepsSlots, LentTo}

-- ---- a change of elements that leaves their keys
module _ {A : Type 0} (key : A → ℕ) (g : A → A) (same : (x : A) → key (g x) ≡ key x) where
  slot_map : (xs : List A) (n : ℕ) → slot_with key (map g xs) n ≡ slot_with key xs n
  unfolding slot_with
  slot_map [] n = refl
  slot_map (x ∷ xs) n = rw (same x, slot_map xs n, length-map xs g) refl

  top-map : (xs : List A) → top_of key (map g xs) ≡ top_of key xs
  unfolding top_of
  top-map [] = refl
  top-map (x ∷ xs) = same x

  -- what it leaves of each element it leaves of the one that is found
  first_under : {B : Type 0} (f : A → B) → ((x : A) → f (g x) ≡ f x) → (none : A) (xs : List A) (n : ℕ) → f (first_with key none (map g xs) n) ≡ f (first_with key none xs n)
  unfolding first_with
  first_under f h none [] n = refl
  first_under f h none (x ∷ xs) n = rw (same x) (pick (first_under f h none xs n) (eqb (key x) n))
    where
      pick : f (first_with key none (map g xs) n) ≡ f (first_with key none xs n) → (b : Bool) → f (cond b (g x) (first_with key none (map g xs) n)) ≡ f (cond b x (first_with key none xs n))
      pick ih true = h x
      pick ih false = ih

-- ---- an end that goes to the system keeps all but its place
module _ (e : ℕ) (r : Row) where
  system-number : (to_system e r).number ≡ r.number
  unfolding to_system with_place
  system-number = pick (eqb r.number e)
    where
      pick : (b : Bool) → (cond b (with_place with_system r) r).number ≡ r.number
      pick true = refl
      pick false = refl

  system-place : with_place 0 (to_system e r) ≡ with_place 0 r
  unfolding to_system with_place
  system-place = pick (eqb r.number e)
    where
      pick : (b : Bool) → with_place 0 (cond b (with_place with_system r) r) ≡ with_place 0 r
      pick true = refl
      pick false = refl

-- ---- rows keep their slots
kept-end : (st : State) (l : Lending) (i : Item) → KeepsSlots st l → KeepsSlots st (lend_end i l)
unfolding lend_end row_slot row_of
kept-end st l i k e j at =
    let (slot, same) = k e j at in (
      slot_map (λ r. r.number) (to_system i.row) (system-number i.row) l.rows e ∙ slot,
      first_under (λ r. r.number) (to_system i.row) (system-number i.row) (with_place 0) (system-place i.row) no_row l.rows e ∙ same,
    )

kept-copy : (st : State) (l : Lending) (c v : ℕ) (i : Item) → rises (λ r. r.number) l.rows ≡ true → top_of (λ r. r.number) l.rows < l.next → KeepsSlots st l → KeepsSlots st (lend_copy st c v i l)
unfolding lend_copy copy_lent copy_of row_slot row_of slot_with first_with numbers
kept-copy st l c v i up top k e j at =
    let (slot, same) = k e j at in
    let (lo, hi) = rises-range (λ r. r.number) l.rows up e (row-found l.rows e j slot).0 in
    let other = ne_eqb l.next e (λ z. omega arith) in
    (rw other slot, rw other same)

-- ---- one item more in the list
list-grows : (k : Loan) (is : List ℕ) (e : ℕ) → k.items ≡ pad 0 4 is → k.count ≡ length is → k.count < 4
    → (set k.items k.count e ≡ pad 0 4 (is ++ (e ∷ []))) × (k.count + 1 ≡ length (is ++ (e ∷ [])))
list-grows k is e items count few =
    (rw (items, count) (set-pad-end 4 is e (omega arith)), omega (arith, length-append is (e ∷ [])))

module _ {t u : List ℕ} (k : Loan) (st : State) (l : Lending) (h : LentTo t k st l) (few : k.count < 4) (i : Item) where
  pub end-lent : Represents u (change_row i.row (with_place 200) (with_rows l.rows st))
      → LentTo u (record { rows = k.rows; next = k.next; items = set k.items k.count i.row; count = k.count + 1 }) st (lend_end i l)
  unfolding lend_end to_system with_system change_row
  end-lent rep =
      let (items, count) = list-grows k l.items i.row h.items h.count few in
      record {
        words = rep;
        rows = h.rows ∙ sym (length-map l.rows (to_system i.row));
        next = h.next;
        items = items;
        count = count;
        kept = kept-end st l i h.kept;
        top = rw (top-map (λ r. r.number) (to_system i.row) (system-number i.row) l.rows) h.top;
      }

  pub copy-lent : (c v : ℕ) → Represents u (with_rows (copy_lent st c v l.next i ∷ l.rows) st)
      → LentTo u (record { rows = k.rows + 1; next = k.next + 1; items = set k.items k.count k.next; count = k.count + 1 }) st (lend_copy st c v i l)
  unfolding lend_copy copy_lent copy_of top_of
  copy-lent c v rep =
      let (items, count) = list-grows k l.items k.next h.items h.count few in
      record {
        words = rep;
        rows = add-one k.rows ∙ ap suc h.rows;
        next = add-one k.next ∙ ap suc h.next;
        items = items ∙ ap (λ (n : ℕ). pad 0 4 (l.items ++ (n ∷ []))) h.next;
        count = count ∙ ap (λ (n : ℕ). length (l.items ++ (n ∷ []))) h.next;
        kept = kept-copy st l c v i (represented-well h.words).rows-rise h.top h.kept;
        top = omega arith;
      }

-- ---- a copy over rows that have kept all but their places is that of the definition
module _ (st : State) (l : Lending) (kept : KeepsSlots st l) (e i c j : ℕ) (row : StandsAt st e i) (port : StandsAt st c j) where
  pub depth-kept : (a b : ℕ) → StandsAt st a b → (row_of l.rows a).depth ≡ (row_of st.rows a).depth
  unfolding with_place
  depth-kept a b at = ap (λ (r : Row). r.depth) (kept a b at).1

  pub depth-over-kept : depth_over l.rows e c ≡ depth_over st.rows e c
  unfolding depth_over
  depth-over-kept = rw (depth-kept e i row, depth-kept c j port) refl

  pub copy-kept : (x : Item) → x.row ≡ e → (w : NewCopy) (v : ℕ) → w.number ≡ l.next → w.rights ≡ x.rights → w.place ≡ 200 → w.depth ≡ depth_over st.rows e c → w.request ≡ v
      → copy_as (with_rows l.rows st) e e c w ≡ copy_lent st c v l.next x
  unfolding copy_lent copy_of item_row copy_depth with_system with_place
  copy-kept x same w v number rights place depth request =
      let old = (kept e i row).1 in
      λ a.
      record {
        number = number a;
        kind = (ap (λ (r : Row). r.kind) old ∙ ap (λ (n : ℕ). (row_of st.rows n).kind) (sym same)) a;
        object = (ap (λ (r : Row). r.object) old ∙ ap (λ (n : ℕ). (row_of st.rows n).object) (sym same)) a;
        operation = (ap (λ (r : Row). r.operation) old ∙ ap (λ (n : ℕ). (row_of st.rows n).operation) (sym same)) a;
        rights = rights a;
        place = place a;
        source = sym same a;
        via = c;
        depth = (depth ∙ ap (λ (n : ℕ). depth_over st.rows n c) (sym same)) a;
        request = request a;
      }

-- ---- an item: none, an end, a copy
module _ (st : State) (c v : ℕ) (i : Item) (l : Lending) where
  pub named_none : some i.row ≡ false → lend_named st c v i l ≡ l
  unfolding lend_named
  named_none h = rw h refl

  pub named_end : some i.row ≡ true → moves st i ≡ true → lend_named st c v i l ≡ lend_end i l
  unfolding lend_named lend_item
  named_end h m = rw (h, m) refl

  pub named-copy : some i.row ≡ true → moves st i ≡ false → lend_named st c v i l ≡ lend_copy st c v i l
  unfolding lend_named lend_item
  named-copy h m = rw (h, m) refl

-- ---- the items, one after the other
module _ (st : State) (c v : ℕ) where
  pub named-first : (i : Item) (is : List Item) (l : Lending)
      → lend_items st c v (filter (λ i. some i.row) (i ∷ is)) l ≡ lend_items st c v (filter (λ i. some i.row) is) (lend_named st c v i l)
  unfolding filter lend_items lend_named
  named-first i is l = pick (some i.row)
    where
      pick : (b : Bool) → lend_items st c v (cond b (i ∷ filter (λ i. some i.row) is) (filter (λ i. some i.row) is)) l
          ≡ lend_items st c v (filter (λ i. some i.row) is) (cond b (lend_item st c v i l) l)
      pick true = refl
      pick false = refl

  -- from a position on
  pub lent-from : (xs : List ItemRow) (k : ℕ) (d : ItemRow) (l : Lending) → k < length xs
      → lend_items st c v (named_in (drop k xs)) l ≡ lend_items st c v (named_in (drop (k + 1) xs)) (lend_named st c v (get_or xs k d).item l)
  lent-from xs k d l h =
      ap (λ (ys : List ItemRow). lend_items st c v (named_in ys) l) (drop-cons xs k d h) ∙ named-first (get_or xs k d).item (items_in (drop (suc k) xs)) l
      ∙ ap (λ (m : ℕ). lend_items st c v (named_in (drop m xs)) (lend_named st c v (get_or xs k d).item l)) (sym (add-one k))

  pub lent-end : (xs : List ItemRow) (k : ℕ) (l : Lending) → length xs ≤ k → lend_items st c v (named_in (drop k xs)) l ≡ l
  unfolding filter lend_items
  lent-end xs k l h = ap (λ (ys : List ItemRow). lend_items st c v (named_in ys) l) (drop_of_length-le xs {i = k} h)

-- ---- the loan begun, and ended
abbrev pub begun_from : State → Lending
begun_from st = record { rows = st.rows; items = []; next = suc st.next }

pub loan-begun : {t : List ℕ} (k : Loan) (st : State) → sound st ≡ true → Represents t st → k.rows ≡ length st.rows → k.next ≡ suc st.next → k.items ≡ pad 0 4 [] → k.count ≡ 0
    → LentTo t k st (begun_from st)
loan-begun k st sd rep rows next items count =
    record {
      words = rep;
      rows = rows;
      next = next;
      items = items;
      count = count;
      kept = λ e i at. (at, refl);
      top = omega (arith, rows-top st (sound-open st sd).numbers);
    }

pub request-listed : (st : State) (w : NewRequest) (is items : List ℕ) → w.number ≡ st.next → items ≡ pad 0 4 is
    → record { number = w.number; port = w.port; asker = w.asker; fetched = 0; items = items } ≡ new_request st.next w.port w.asker is
unfolding new_request most_items
request-listed st w is items number same = λ a. record { number = number a; port = w.port; asker = w.asker; fetched = 0; items = same a }

pub request-state : (st : State) (p c v : ℕ) (is : List Item) → v ≡ st.next → (n : ℕ) → n ≡ (lend_items st c v is (begun_from st)).next → (q : Request) → q ≡ new_request st.next c p (lend_items st c v is (begun_from st)).items
    → with_next n (with_requests (q ∷ st.requests) (with_rows (lend_items st c v is (begun_from st)).rows st)) ≡ with_request st p c is
unfolding with_request lent
request-state st p c v is number n next q same =
    λ a.
    record {
      rows = (lend_items st c (number a) is (begun_from st)).rows;
      requests = (same ∙ ap (λ (k : ℕ). new_request st.next c p (lend_items st c k is (begun_from st)).items) number) a ∷ st.requests;
      processes = st.processes;
      next = (next ∙ ap (λ (k : ℕ). (lend_items st c k is (begun_from st)).next) number) a;
    }
