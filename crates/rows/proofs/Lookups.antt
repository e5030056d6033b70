-- What the searches of the lent words find, where they represent a state: the slots of its rows and requests.
use Rattle.std.proofs.Common.{◌≡◌, ℕ, ◌+◌, ◌*◌, ◌<◌, ◌≤◌, true, List, length, get_or, take, drop, sym, ap, ◌∙◌, subst, arith, length-drop, length-take-le, get_or-drop, get_or-take}
use native.Mathlib.Decide.{dec_lt}
use lib.ListN.{get_or-eq_default}
use Rattle.std.specs.Prelude.{Option}
use Rattle.std.specs.Prelude.{Some, None}
use Rattle.rows.specs.Limits.{row_slots, request_slots}
use Rattle.rows.specs.Lists.{rises, slot_with, laid}
use Rattle.rows.specs.Tables.{State}
use Rattle.rows.specs.vocabulary.Represents.{Represents}
use Rattle.rows.specs.vocabulary.Slots.{found_slot, request_slot, open_slot}
use Rattle.rows.specs.Layout.{row_columns, requests_at, row_slot, row_word, request_word, rows_in, requests_in}
use Rattle.rows.specs.vocabulary.Searches.{Ascending, LastAt, LastAtIfAscending, LeadingIfFront, LastUpToIfFront}
use Rattle.rows.proofs.Keyed.{rises-range}
use Rattle.rows.proofs.LayoutColumns.{length-laid}
use Rattle.rows.proofs.Searches.{Keys, last-slot, keys-rise, keys-member, keys-part, Numbers, numbers-used, numbers-front, half-hit, last_none}
use Rattle.rows.proofs.Slots.{represented-well, represented-length, represented-rows, represented-requests, represented-row, represented-request, row-words-at, request-words-at}

module _ {st : State} {t : List ℕ} (rep : Represents t st) where
  -- ---- the columns of keys
  row-keys : Keys (λ r. r.number) (take 1024 (drop 0 t)) st.rows
  row-keys =
      keys-part (λ r. r.number) t 0 1024 st.rows (represented-well rep).rows-fit
      (λ new r old e. let first : 0 + length old ≡ length old = omega arith in ap (λ (i : ℕ). get_or t i 0) first ∙ (row-words-at rep new r old e).number)

  request-keys : Keys (λ v. v.number) (take 128 (drop 10240 t)) st.requests
  request-keys = keys-part (λ v. v.number) t 10240 128 st.requests (represented-well rep).requests-fit (λ new v old e. (request-words-at rep new v old e).number)

  port-keys : Keys (λ v. v.port) (take 128 (drop 10368 t)) st.requests
  port-keys = keys-part (λ v. v.port) t 10368 128 st.requests (represented-well rep).requests-fit (λ new v old e. (request-words-at rep new v old e).port)

  -- ---- what a search among so many of them finds
  -- by halves, over keys that rise
  halves : {A : Type 0} (key : A → ℕ) (l : List ℕ) (xs : List A) → Keys key l xs → rises key xs ≡ true → (k n : ℕ) (r : Option ℕ) → k ≡ length xs
      → LastAtIfAscending l k n r → r ≡ found_slot (slot_with key xs n)
  halves key l xs ks up k n r e p =
      last-slot key l n xs r ks (subst (λ (m : ℕ). LastAt l m n r) e (p (subst (λ (m : ℕ). Ascending m l) (sym e) (keys-rise key l xs ks up))))

  -- by steps, over the numbers of the rows
  abbrev numbers-in : List ℕ
  numbers-in = take 1024 (drop 0 t)

  -- the words of a column after those laid in it are 0
  column-unused : (a k : ℕ) (l : List ℕ) → a + k ≤ 11265 → ((i : ℕ) → i < k → get_or t (a + i) 0 ≡ get_or l i 0)
      → (i : ℕ) → length l ≤ i → get_or (take k (drop a t)) i 0 ≡ 0
  column-unused a k l fits same i h =
      elim (dec_lt i k) [
        | yes lt ↦ get_or-take k (drop a t) i 0 lt ∙ get_or-drop a t i 0 ∙ same i lt ∙ get_or-eq_default l 0 h
        | no ge ↦
            get_or-eq_default (take k (drop a t)) 0 (omega (arith, length-take-le k (drop a t) (omega (arith, represented-length rep, length-drop a t))))
      ]

  -- numbers that rise, the keys of the elements
  keyed-numbers : {A : Type 0} (key : A → ℕ) (l : List ℕ) (xs : List A) → Keys key l xs → rises key xs ≡ true
      → ((i : ℕ) → length xs ≤ i → get_or l i 0 ≡ 0) → Numbers l (length xs)
  keyed-numbers key l xs ks up zero =
      record {
        rise = keys-rise key l xs ks up;
        used = λ i h. (rises-range key xs up (get_or l i 0) (keys-member key l xs ks i h)).0;
        unused = zero;
      }

  row-numbers : Numbers numbers-in (length st.rows)
  row-numbers =
      keyed-numbers (λ r. r.number) numbers-in st.rows row-keys (represented-well rep).rows-rise
      (λ i h. column-unused 0 1024 (laid (row_word 0) st.rows) (omega arith)
      (λ j g. represented-row rep 0 j (omega arith) g) i (omega (arith, length-laid (row_word 0) st.rows)))

  request-numbers : Numbers (take 128 (drop 10240 t)) (length st.requests)
  request-numbers =
      keyed-numbers (λ v. v.number) (take 128 (drop 10240 t)) st.requests request-keys (represented-well rep).requests-rise
      (λ i h. column-unused 10240 128 (laid (request_word 0) st.requests) (omega arith)
      (λ j g. (let first : 10240 + j ≡ 10240 + (0 * 128 + j) = omega arith in ap (λ (n : ℕ). get_or t n 0) first) ∙ represented-request rep 0 j (omega arith) g) i (omega (arith, length-laid (request_word 0) st.requests)))

  -- ---- how many there are
  pub rows-counted : (r : ℕ) → LeadingIfFront numbers-in r → r ≡ length st.rows
  unfolding rows_in row_slots
  rows-counted r f = f (numbers-used numbers-in (length st.rows) row-numbers) ∙ represented-rows rep

  pub requests-counted : (r : ℕ) → LeadingIfFront (take 128 (drop 10240 t)) r → r ≡ length st.requests
  unfolding requests_in request_slots requests_at row_columns row_slots
  requests-counted r f = f (numbers-used (take 128 (drop 10240 t)) (length st.requests) request-numbers) ∙ represented-requests rep

  -- what the last number up to n tells of the row numbered n
  module _ (k n last : ℕ) (counted : k ≡ length st.rows) (found : LastUpToIfFront numbers-in n last) where
    few : k ≤ 1024
    few = omega (arith, (represented-well rep).rows-fit)

    is-slot : (r : Option ℕ) → LastAt numbers-in (length st.rows) n r → r ≡ found_slot (row_slot st.rows n)
    unfolding row_slot
    is-slot r p = last-slot (λ r. r.number) numbers-in n st.rows r row-keys p

    same_word : last < k → get_or numbers-in last 0 ≡ get_or t (0 + last) 0
    same_word h = get_or-take 1024 (drop 0 t) last 0 (omega (arith, few)) ∙ (let first : last ≡ 0 + last = omega arith in ap (λ (j : ℕ). get_or t j 0) first)

    pub row-hit : last < k → get_or t (0 + last) 0 ≡ n → Some last ≡ found_slot (row_slot st.rows n)
    row-hit h e = is-slot (Some last) (half-hit numbers-in (length st.rows) n row-numbers.rise last (omega arith) (same_word h ∙ e))

    pub row-missed : (last < k → get_or t (0 + last) 0 ≡ n → ⊥) → None ≡ found_slot (row_slot st.rows n)
    row-missed other =
        is-slot None
        (last_none numbers-in n (length st.rows) row-numbers last (found (numbers-front numbers-in n (length st.rows) row-numbers))
        (λ h e. other (omega arith) (sym (same_word (omega arith)) ∙ e)))

  pub request-search : (k q : ℕ) (r : Option ℕ) → k ≡ length st.requests → LastAtIfAscending (take 128 (drop 10240 t)) k q r
      → r ≡ found_slot (request_slot st.requests q)
  unfolding request_slot
  request-search = halves (λ v. v.number) (take 128 (drop 10240 t)) st.requests request-keys (represented-well rep).requests-rise

  -- back from the newest
  pub open-search : (k c : ℕ) (r : Option ℕ) → k ≡ length st.requests → LastAt (take 128 (drop 10368 t)) k c r → r ≡ found_slot (open_slot st.requests c)
  unfolding open_slot
  open-search k c r e p = last-slot (λ v. v.port) (take 128 (drop 10368 t)) c st.requests r port-keys (subst (λ (m : ℕ). LastAt (take 128 (drop 10368 t)) m c r) e p)
