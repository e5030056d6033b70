-- The items of an ask with their rows looked up: what word and count of rows say of one; the tests of all joined; the tests of ask.
use Prim.Native.Nat.{ℕ, zero, suc, ◌+◌, ◌-◌, ◌<◌, ◌≤◌}
use mathlib.Core.Bool.{Bool, true, false, cond, not, ◌&&◌, ◌||◌}
use mathlib.Core.List.{List, [], ◌∷◌}
use mathlib.Core.Path.{◌≡◌, refl, ap, sym, subst, ◌∙◌}
use native.Mathlib.Omega.{arith}
use native.Mathlib.Numerals.{add-one}
use borrow.Author.Tests.{lt-ltb, le-ltb, le-leb, lt-leb}
use lib.ListN.{length, get_or, drop, drop_of_length-le}
use lib.Seq.{drop-cons}
use Rattle.std.specs.List.{list_any}
use Rattle.std.proofs.lemmas.List.Elements.{All-head, All-tail}
use lib.Dec.{eqb}
use Rattle.rows.specs.Lists.{any, filter, some, rises}
use Rattle.rows.specs.Limits.{greatest_number, row_slots, request_slots}
use Rattle.rows.specs.vocabulary.Sizes.{LAST-NEXT}
use Rattle.rows.specs.Codes.{is_client, in_clist, may_transfer, within}
use Rattle.rows.specs.Tables.{State, row_of, numbers}
use Rattle.rows.specs.Layout.{row_slot}
use Rattle.rows.specs.vocabulary.Represents.{Represents}
use Rattle.rows.proofs.Bools.{clash, false_of, not_f, not_t, or_r, pos-some}
use Rattle.rows.proofs.Keyed.{rises-range}
use Rattle.rows.proofs.Slots.{row-none, row-found}
use Rattle.tables.proofs.SoundFacts.{clist-there}
use Rattle.calls.specs.declared.Item.{Item}
use Rattle.calls.specs.declared.ItemRow.{ItemRow}
use Rattle.std.specs.Prelude.{Option, Some, None}
use Rattle.calls.specs.Rules.{Test, ◌when◌, lowest, not_held, has_open, too_deep, rows_full, requests_full, numbers_spent}
use Rattle.calls.specs.Loans.{items_of, item_row, moves, copies, copy_depth}
use Rattle.calls.specs.Calls.{lacks_right, is_busy, refusals_ask}
use Rattle.calls.specs.vocabulary.Asks.{is_copy, item_row_of, is_missing, looked_up, ItemFits, LookedFits, ItemHeld, ItemsHeld, named_in, copies_in}
use Rattle.calls.proofs.LookedUp.{zero_word}

-- ---- the look-up of an item
module _ (st : State) (p : ℕ) (i : Item) where
  pub looked-none : {t : List ℕ} → Represents t st → i.row ≡ 0 → Some (record { item = i; word = 0; copies = 0 }) ≡ looked_up st p i
  unfolding looked_up item_row_of
  looked-none rep z =
      let none : some i.row ≡ false = ap some z ∙ (unfold some in refl) in
      let word = sym (ap (row_slot st.rows) z ∙ zero_word rep) in
      rw none (ap (λ (w : ℕ). Some (record { item = i; word = w; copies = 0 })) word)

  pub looked-missing : some i.row ≡ true → not_held st p i.row ≡ true → ◌≡◌ {A = Option ItemRow} None (looked_up st p i)
  unfolding looked_up
  looked-missing s h = rw (s, h) refl

  pub looked-held : some i.row ≡ true → not_held st p i.row ≡ false → (j : ℕ) → row_slot st.rows i.row ≡ suc j → (k : ℕ) → k ≡ cond (not (moves st i)) 1 0
      → Some (record { item = i; word = j + 1; copies = k }) ≡ looked_up st p i
  unfolding looked_up item_row_of
  looked-held s h j at k same = rw (s, h, at, same, add-one j) refl

  -- what was found is held, and is the item's
  pub looked-found : (r : Option ItemRow) (x : ItemRow) → r ≡ looked_up st p i → r ≡ Some x → (x.item ≡ i) × ItemHeld st p x
  unfolding looked_up
  looked-found r x f a = pick (is_missing st p i) refl f
    where
      pick : (b : Bool) → is_missing st p i ≡ b → r ≡ cond b None (Some (item_row_of st i)) → (x.item ≡ i) × ItemHeld st p x
      pick true q f = let z : ◌≡◌ {A = ℕ} 0 1 = cc in absurd (omega arith)
      pick false q f =
          let same : x ≡ item_row_of st i = cc in
          let item : x.item ≡ i = ap (λ (y : ItemRow). y.item) same ∙ (unfold item_row_of in refl) in
          (item, (same ∙ ap (item_row_of st) (sym item), ap (is_missing st p) item ∙ q))

  pub looked-nothing : (r : Option ItemRow) → r ≡ looked_up st p i → r ≡ None → is_missing st p i ≡ true
  unfolding looked_up
  looked-nothing r f a = pick (is_missing st p i) f
    where
      pick : (b : Bool) → r ≡ cond b None (Some (item_row_of st i)) → b ≡ true
      pick true f = refl
      pick false f = let z : ◌≡◌ {A = ℕ} 0 1 = cc in absurd (omega arith)

pub held_fits : (n : ℕ) (r : Option ItemRow) (x : ItemRow) → LookedFits n r → r ≡ Some x → ItemFits n x
unfolding LookedFits
held_fits n (Some y) x h e = let same : y ≡ x = cc in subst (ItemFits n) same h
held_fits n None x h e = let z : ◌≡◌ {A = ℕ} 0 1 = cc in absurd (omega arith)

-- ---- one item
module _ (st : State) (p : ℕ) (x : ItemRow) (h : ItemHeld st p x) where
  pub word_of : row_slot st.rows x.item.row ≡ x.word
  unfolding item_row_of
  word_of = sym (ap (λ (y : ItemRow). y.word) h.0)

  pub copies_of : x.copies ≡ cond (is_copy st x.item) 1 0
  unfolding item_row_of
  copies_of = ap (λ (y : ItemRow). y.copies) h.0

  -- word 0 is no item; another is that of a row
  pub no_item : x.word ≡ 0 → some x.item.row ≡ false
  unfolding not_held
  no_item z = false_of (some x.item.row) (λ s. clash (clist-there st.rows p x.item.row (here s)) (row-none st.rows x.item.row (word_of ∙ z)))
    where
      here : some x.item.row ≡ true → eqb (row_of st.rows x.item.row).place (in_clist p) ≡ true
      here s = not_f _ (ap (λ (b : Bool). b && not (eqb (row_of st.rows x.item.row).place (in_clist p))) (sym s) ∙ h.1)

  pub an_item : rises (λ r. r.number) st.rows ≡ true → (x.word ≡ 0 → ⊥) → some x.item.row ≡ true
  unfolding numbers
  an_item up ne = pick x.word refl
    where
      pick : (w : ℕ) → x.word ≡ w → some x.item.row ≡ true
      pick zero e = absurd (ne e)
      pick (suc i) e = pos-some x.item.row (rises-range (λ r. r.number) st.rows up x.item.row (row-found st.rows x.item.row i (word_of ∙ e)).0).0

  -- an item that takes a row is copied, one that takes none is no item or moves
  pub is-copy : (x.copies ≡ 0 → ⊥) → is_copy st x.item ≡ true
  is-copy ne = pick (is_copy st x.item) copies_of
    where
      pick : (b : Bool) → x.copies ≡ cond b 1 0 → b ≡ true
      pick true e = refl
      pick false e = absurd (ne e)

  pub no_copy : x.copies ≡ 0 → is_copy st x.item ≡ false
  no_copy z = pick (is_copy st x.item) copies_of
    where
      pick : (b : Bool) → x.copies ≡ cond b 1 0 → b ≡ false
      pick true e = absurd (omega arith)
      pick false e = refl

  pub copy-stays : (x.copies ≡ 0 → ⊥) → moves st x.item ≡ false
  copy-stays ne = pick (some x.item.row) (moves st x.item) (is-copy ne)
    where
      pick : (a b : Bool) → a && not b ≡ true → b ≡ false
      pick true b e = not_t b e
      pick false b e = clash e refl

  pub end-moves : some x.item.row ≡ true → x.copies ≡ 0 → moves st x.item ≡ true
  end-moves s z = pick (some x.item.row) (moves st x.item) s (no_copy z)
    where
      pick : (a b : Bool) → a ≡ true → a && not b ≡ false → b ≡ true
      pick true b q e = not_f b e
      pick false b q e = clash q refl

  pub copied-test : some x.item.row ≡ true → eqb x.copies 1 ≡ not (moves st x.item)
  copied-test s = rw (copies_of, s) (pick (moves st x.item))
    where
      pick : (b : Bool) → eqb (cond (not b) 1 0) 1 ≡ not b
      pick true = refl
      pick false = refl

  -- the slot of its row
  pub slot_of : (x.word ≡ 0 → ⊥) → row_slot st.rows x.item.row ≡ suc (x.word - 1)
  slot_of ne = pick x.word refl
    where
      pick : (w : ℕ) → x.word ≡ w → row_slot st.rows x.item.row ≡ suc (w - 1)
      pick zero e = absurd (ne e)
      pick (suc i) e = word_of ∙ e ∙ ap suc (omega arith)

-- ---- the tests of one item, as its words answer them
module _ (st : State) (i : Item) where
  pub lacks-read : {a b w : Bool} (g : ℕ) → g ≡ (item_row st i).rights → a ≡ not (moves st i) → b ≡ may_transfer g → w ≡ within i.rights g → (a && not b) || not w ≡ lacks_right st i
  unfolding lacks_right
  lacks-read g rights copied transfer part = rw (part, transfer, copied, rights) refl

  pub busy-read : (c port : ℕ) {o : Bool} → port ≡ (item_row st i).object → moves st i ≡ true → o ≡ has_open st port → eqb port c || o ≡ is_busy st c i
  unfolding is_busy
  busy-read c port same end asked = rw (asked, same, end) refl

  pub copy-free : (c : ℕ) → moves st i ≡ false → is_busy st c i ≡ false
  unfolding is_busy
  copy-free c h = rw h refl

-- ---- all items
pub any-named : (f : Item → Bool) (xs : List ItemRow) → list_any (λ x. some x.item.row && f x.item) xs ≡ any f (named_in xs)
unfolding any filter
any-named f [] = refl
any-named f (x ∷ xs) = pick (any-named f xs) (some x.item.row)
  where
    pick : list_any (λ x. some x.item.row && f x.item) xs ≡ any f (named_in xs) → (b : Bool)
        → (b && f x.item) || list_any (λ x. some x.item.row && f x.item) xs ≡ any f (cond b (x.item ∷ named_in xs) (named_in xs))
    pick ih true = ap (λ (c : Bool). f x.item || c) ih
    pick ih false = ih

pub any_copied : (st : State) (f : Item → Bool) (xs : List ItemRow) → list_any (λ x. is_copy st x.item && f x.item) xs ≡ any f (copies st (named_in xs))
unfolding any filter copies
any_copied st f [] = refl
any_copied st f (x ∷ xs) = pick (any_copied st f xs) (some x.item.row) (moves st x.item) refl
  where
    pick : list_any (λ x. is_copy st x.item && f x.item) xs ≡ any f (copies st (named_in xs)) → (b m : Bool) → moves st x.item ≡ m
        → ((b && not m) && f x.item) || list_any (λ x. is_copy st x.item && f x.item) xs ≡ any f (copies st (cond b (x.item ∷ named_in xs) (named_in xs)))
    pick ih true true e = rw (e, ih) refl
    pick ih true false e = rw (e, ih) refl
    pick ih false m e = ih

-- 7 of an item: none is missing; one is
pub none-missing : (st : State) (p : ℕ) (xs : List ItemRow) → ItemsHeld st p xs → any (λ i. not_held st p i.row) (named_in xs) ≡ false
unfolding any filter
none-missing st p [] h = refl
none-missing st p (x ∷ xs) h =
    sym (any-named (λ i. not_held st p i.row) (x ∷ xs))
    ∙ rw ((All-head (ItemHeld st p) x xs h).1, any-named (λ i. not_held st p i.row) xs ∙ none-missing st p xs (All-tail (ItemHeld st p) x xs h)) refl

pub one-missing : (st : State) (p : ℕ) (is : List Item) (k : ℕ) (d : Item) → k < length is → is_missing st p (get_or is k d) ≡ true
    → any (λ i. not_held st p i.row) (filter (λ i. some i.row) is) ≡ true
unfolding any filter
one-missing st p [] k d h m = absurd (omega arith)
one-missing st p (i ∷ is) zero d h m = pick (some i.row) (not_held st p i.row) refl m
  where
    pick : (a b : Bool) → not_held st p i.row ≡ b → a && b ≡ true → any (λ i. not_held st p i.row) (cond a (i ∷ filter (λ i. some i.row) is) (filter (λ i. some i.row) is)) ≡ true
    pick true b e q = rw (e, q) refl
    pick false b e q = clash q refl
one-missing st p (i ∷ is) (suc k) d h m = pick (some i.row) (one-missing st p is k d (omega arith) m)
  where
    pick : (a : Bool) → any (λ i. not_held st p i.row) (filter (λ i. some i.row) is) ≡ true
        → any (λ i. not_held st p i.row) (cond a (i ∷ filter (λ i. some i.row) is) (filter (λ i. some i.row) is)) ≡ true
    pick true e = or_r (not_held st p i.row) _ e
    pick false e = e

-- the items from a position on
module _ (xs : List ItemRow) (k : ℕ) where
  pub copies-from : (d : ItemRow) → k < length xs → copies_in (drop k xs) ≡ (get_or xs k d).copies + copies_in (drop (k + 1) xs)
  unfolding copies_in
  copies-from d h = ap copies_in (drop-cons xs k d h) ∙ ap (λ (m : ℕ). (get_or xs k d).copies + copies_in (drop m xs)) (sym (add-one k))

  pub copies-end : length xs ≤ k → copies_in (drop k xs) ≡ 0
  unfolding copies_in
  copies-end h = ap copies_in (drop_of_length-le xs {i = k} h)

pub copies-counted : (st : State) (p : ℕ) (xs : List ItemRow) → ItemsHeld st p xs → copies_in xs ≡ length (copies st (named_in xs))
unfolding filter copies copies_in
copies-counted st p [] h = refl
copies-counted st p (x ∷ xs) h =
    pick (copies-counted st p xs (All-tail (ItemHeld st p) x xs h)) (some x.item.row) (moves st x.item) refl (copies_of st p x (All-head (ItemHeld st p) x xs h))
  where
    pick : copies_in xs ≡ length (copies st (named_in xs)) → (b m : Bool) → moves st x.item ≡ m → x.copies ≡ cond (b && not m) 1 0
        → x.copies + copies_in xs ≡ length (copies st (cond b (x.item ∷ named_in xs) (named_in xs)))
    pick ih true true e q = rw e (omega (arith, ih, q))
    pick ih true false e q = rw e (omega (arith, ih, q))
    pick ih false m e q = omega (arith, ih, q)

-- ---- the tests of ask
abbrev pub space_tests : State → ℕ → List Test
space_tests st k = 16 when rows_full st k ∷ 17 when requests_full st ∷ 18 when numbers_spent st (suc k) ∷ []

pub ask-seven : (st : State) (p c : ℕ) (is : List Item) → not_held st p c || any (λ i. not_held st p i.row) is ≡ true → 7 ≡ lowest (refusals_ask st p c is)
unfolding refusals_ask lowest
ask-seven st p c is h = rw h refl

-- one item is missing
pub item-seven : (st : State) (p c : ℕ) (is : List Item) (k : ℕ) (d : Item) → k < length is → is_missing st p (get_or is k d) ≡ true → 7 ≡ lowest (refusals_ask st p c (items_of is))
unfolding items_of
item-seven st p c is k d few m = ask-seven st p c (items_of is) (or_r (not_held st p c) _ (one-missing st p is k d few m))

pub ask-rest : (st : State) (p c : ℕ) (is : List Item) → not_held st p c ≡ false → any (λ i. not_held st p i.row) is ≡ false
    → lowest (refusals_ask st p c is)
    ≡ cond (not (is_client (row_of st.rows c).kind)) 8
    (cond (any (lacks_right st) is) 9
    (cond (has_open st c || any (is_busy st c) is) 10
    (cond (any (λ i. too_deep (copy_depth st c i)) (copies st is)) 15 (lowest (space_tests st (length (copies st is)))))))
unfolding refusals_ask lowest
ask-rest st p c is h k = rw (h, k) refl

module _ (st : State) (n m next k : ℕ) (rows : n ≡ length st.rows) (requests : m ≡ length st.requests) (nx : st.next ≡ next) where
  pub no_rows : 1024 < n + k → 16 ≡ lowest (space_tests st k)
  unfolding lowest rows_full row_slots
  no_rows h = rw (lt-ltb 1024 (length st.rows + k) (omega arith)) refl

  module _ (free : n + k ≤ 1024) where
    pub no-requests : 128 ≤ m → 17 ≡ lowest (space_tests st k)
    unfolding lowest rows_full row_slots requests_full request_slots
    no-requests h = rw (le-ltb 1024 (length st.rows + k) (omega arith), le-leb 128 (length st.requests) (omega arith)) refl

    module _ (few : m < 128) where
      pub no-numbers : LAST-NEXT < next + 1 + k → 18 ≡ lowest (space_tests st k)
      unfolding lowest rows_full row_slots requests_full request_slots numbers_spent greatest_number
      no-numbers h =
          rw (le-ltb 1024 (length st.rows + k) (omega arith), lt-leb 128 (length st.requests) (omega arith), lt-ltb LAST-NEXT (st.next + suc k) (omega arith)) refl

      pub has-space : next + 1 + k ≤ LAST-NEXT → 0 ≡ lowest (space_tests st k)
      unfolding lowest rows_full row_slots requests_full request_slots numbers_spent greatest_number
      has-space h =
          rw (le-ltb 1024 (length st.rows + k) (omega arith), lt-leb 128 (length st.requests) (omega arith), le-ltb LAST-NEXT (st.next + suc k) (omega arith)) refl
