-- Words in which rows and requests are laid represent the state that is read from them, and a state that words represent is laid in them.
use Prim.Native.Nat.{ℕ, zero, suc, ◌+◌, ◌*◌, ◌-◌, ◌<◌, ◌≤◌}
use mathlib.Core.Bool.{Bool, true, false, cond}
use mathlib.Core.List.{List, [], ◌∷◌}
use mathlib.Core.Path.{◌≡◌, refl, ap, sym, subst, ◌∙◌}
use mathlib.Core.Logic.{◌⊎◌, inl, inr, ⊎_elim}
use native.Mathlib.Nat.{suc-mul}
use native.Mathlib.Decide.{dec_lt}
use native.Mathlib.Omega.{arith}
use borrow.Author.Tests.{lt-ltb, le-leb}
use lib.Dec.{eqb}
use lib.ListN.{length, get_or, take, drop, length-take}
use lib.Seq.{get_or-drop, ext_get_or}
use Rattle.rows.specs.declared.Row.{Row}
use Rattle.rows.specs.declared.Request.{Request}
use Rattle.rows.specs.Lists.{rises, member, all, laid, filter, some, nonzero, slot_with}
use Rattle.rows.specs.Limits.{row_slots, request_slots, most_items}
use Rattle.rows.specs.Tables.{numbers, sources}
use Rattle.rows.specs.Sound.{rows_rise, requests_rise, rows_fit, requests_fit, items_few}
use Rattle.rows.specs.Layout.{words_of, next_at, request_columns, source_slot, words_of_row, slotted, row_word, request_word, row_field, number_at, row_at, rows_to, row_columns, requests_at, request_field, request_at, requests_to, rows_in, requests_in, state_of, row_slot, raw_row}
use Rattle.rows.specs.Setters.{with_sources}
use Rattle.rows.specs.vocabulary.Represents.{sources_older, laid_well, Represents}
use Rattle.rows.proofs.LayoutRows.{row-word-from}
use Rattle.rows.proofs.LayoutRequests.{request-word-from}
use Rattle.soundness.specs.vocabulary.Laid.{Rising, RowsLaid, RequestsLaid}
use Rattle.rows.proofs.Bools.{and_i}
use Rattle.rows.proofs.RowSources.{Among}
use Rattle.rows.proofs.Searches.{leading_le}
use Rattle.rows.proofs.Slots.{slot-member, source-zero, source-rises, source-le, represented-well, represented-length, represented-row, represented-request, represented-next}
use Rattle.soundness.proofs.ListTo.{list_to, length_to, each_to, all-to, laid-past, laid-to, slot-to, rises-to, to-rises}

lt-or-ge : (a b : ℕ) → (a < b) ⊎ (b ≤ a)
lt-or-ge a b = elim (dec_lt a b) [ yes h ↦ inl h | no h ↦ inr (omega arith) ]

-- ---- rows and requests read slot by slot
pub rows-list : (t : List ℕ) (n k : ℕ) → rows_to t n k ≡ list_to (row_at t n) k
unfolding rows_to list_to
rows-list t n zero = refl
rows-list t n (suc k) = ap (λ (l : List Row). row_at t n k ∷ l) (rows-list t n k)

pub requests-list : (t : List ℕ) (k : ℕ) → requests_to t k ≡ list_to (request_at t) k
unfolding requests_to list_to
requests-list t zero = refl
requests-list t (suc k) = ap (λ (l : List Request). request_at t k ∷ l) (requests-list t k)

number_word : (t : List ℕ) (n i : ℕ) → get_or t i 0 ≡ (row_at t n i).number
unfolding row_at raw_row with_sources row_field row_slots
number_word t n i = ap (λ (j : ℕ). get_or t j 0) (omega arith)

request-number-word : (t : List ℕ) (i : ℕ) → get_or (drop 10240 t) i 0 ≡ (request_at t i).number
unfolding request_at request_field requests_at row_columns row_slots request_slots
request-number-word t i = get_or-drop 10240 t i 0 ∙ ap (λ (j : ℕ). get_or t j 0) (omega arith)

-- 0, or what passes
passes : (P : ℕ → Bool) (a : ℕ) (ns : List ℕ) → (a ≡ 0) ⊎ (P a ≡ true) → all P (nonzero ns) ≡ true → all P (nonzero (a ∷ ns)) ≡ true
unfolding nonzero filter all some
passes P a ns (inl z) e = rw z e
passes P a ns (inr u) e = pick (some a)
  where
    pick : (b : Bool) → all P (cond b (a ∷ filter some ns) (filter some ns)) ≡ true
    pick true = and_i (P a) (all P (filter some ns)) u e
    pick false = e

-- ---- n rows laid in the words: what is read from them
module _ (t : List ℕ) (n : ℕ) (laid-well : RowsLaid t n) where
  below-rises : (k : ℕ) → k ≤ n → rises (λ r. r.number) (list_to (row_at t n) k) ≡ true
  unfolding Rising
  below-rises k h = rises-to (row_at t n) (λ r. r.number) t (number_word t n) k (λ i lt. laid-well.numbers i (omega arith))

  number-at : (j : ℕ) → j < n → number_at t n (suc j) ≡ (row_at t n j).number
  unfolding number_at row_at raw_row with_sources
  number-at j h = rw (lt-ltb j n h) refl

  -- the slot, plus 1, of one of the first k rows, read as its number and found again
  source-back : (k s : ℕ) → k ≤ n → s ≤ k → (source_slot (list_to (row_at t n) k) (number_at t n s) ≡ s) × Among (list_to (row_at t n) k) (number_at t n s)
  unfolding number_at row_slot numbers
  source-back k zero few h = (source-zero (list_to (row_at t n) k), inl refl)
  source-back k (suc j) few h =
      let e : number_at t n (suc j) ≡ (row_at t n j).number = number-at j (omega arith) in
      let slot : slot_with (λ r. r.number) (list_to (row_at t n) k) (row_at t n j).number ≡ suc j = slot-to (row_at t n) (λ r. r.number) k j (below-rises k few) h in (
        ap (source_slot (list_to (row_at t n) k)) e ∙ source-rises (list_to (row_at t n) k) (below-rises k few) (row_at t n j).number ∙ slot,
        inr (ap (λ (m : ℕ). member m (numbers (list_to (row_at t n) k))) e ∙ slot-member (λ r. r.number) (list_to (row_at t n) k) (row_at t n j).number j slot),
      )

  row-word : (c i : ℕ) → c < 10 → i < n → row_word c (row_at t n i) (list_to (row_at t n) i) ≡ row_field t c i
  unfolding row_word slotted row_at raw_row with_sources row_field row_slots
  row-word c i h lt =
      let source = (source-back i (row_field t 6 i) (omega arith) (laid-well.sources i lt)).0 in
      let via = (source-back i (row_field t 7 i) (omega arith) (laid-well.vias i lt)).0 in
      (λ j. get_or (words_of_row (with_sources (source j) (via j) (raw_row t i))) c 0) ∙ row-word-from (λ d. row_field t d i) c h

  -- the words are those that the rows read lay out
  pub row_laid : (c i : ℕ) → c < 10 → i < 1024 → get_or t (c * 1024 + i) 0 ≡ get_or (laid (row_word c) (rows_to t n n)) i 0
  unfolding row_field row_slots
  row_laid c i h hi =
      rw (rows-list t n n)
      (⊎_elim (λ lt. sym (laid-to (row_at t n) (row_word c) n i lt ∙ row-word c i h lt))
      (λ ge. laid-well.unused c i h ge hi ∙ sym (laid-past (row_word c) (list_to (row_at t n) n) i (omega (arith, length_to (row_at t n) n)))) (lt-or-ge i n))

  pub rows-read-rise : rises (λ r. r.number) (rows_to t n n) ≡ true
  rows-read-rise = rw (rows-list t n n) (below-rises n (omega arith))

  pub rows-read-older : sources_older (rows_to t n n) ≡ true
  unfolding sources_older sources row_at row_field row_slots all nonzero filter with_sources number_at raw_row
  rows-read-older =
      rw (rows-list t n n)
      (each_to (row_at t n) (λ r rs. all (λ s. member s (numbers rs)) (sources r)) n
      (λ i lt.
      passes (λ s. member s (numbers (list_to (row_at t n) i))) (row_at t n i).source ((row_at t n i).via ∷ []) (source-back i (row_field t 6 i) (omega arith) (laid-well.sources i lt)).1
      (passes (λ s. member s (numbers (list_to (row_at t n) i))) (row_at t n i).via [] (source-back i (row_field t 7 i) (omega arith) (laid-well.vias i lt)).1 refl)))

-- ---- m requests laid in the words
module _ (t : List ℕ) (m : ℕ) (laid-well : RequestsLaid t m) where
  request-word : (c i : ℕ) → c < 8 → request_word c (request_at t i) (list_to (request_at t) i) ≡ request_field t c i
  unfolding request_word request_at
  request-word c i h = request-word-from (λ d. request_field t d i) c h

  pub request-laid : (c i : ℕ) → c < 8 → i < 128 → get_or t (10240 + (c * 128 + i)) 0 ≡ get_or (laid (request_word c) (requests_to t m)) i 0
  unfolding request_field requests_at row_columns row_slots request_slots
  request-laid c i h hi =
      rw (requests-list t m)
      (⊎_elim (λ lt. sym (laid-to (request_at t) (request_word c) m i lt ∙ request-word c i h))
      (λ ge. laid-well.unused c i h ge hi ∙ sym (laid-past (request_word c) (list_to (request_at t) m) i (omega (arith, length_to (request_at t) m)))) (lt-or-ge i m))

  pub requests-read-rise : rises (λ v. v.number) (requests_to t m) ≡ true
  requests-read-rise = rw (requests-list t m) (rises-to (request_at t) (λ v. v.number) (drop 10240 t) (request-number-word t) m laid-well.numbers)

-- ---- the state read from the words
pub rows_few : (t : List ℕ) → rows_in t ≤ 1024
unfolding rows_in row_slots
rows_few t = omega (arith, leading_le (take 1024 t), length-take 1024 t)

pub requests-few : (t : List ℕ) → requests_in t ≤ 128
unfolding requests_in request_slots
requests-few t = omega (arith, leading_le (take 128 (drop requests_at t)), length-take 128 (drop requests_at t))

pub length-rows : (t : List ℕ) (n k : ℕ) → length (rows_to t n k) ≡ k
length-rows t n k = ap length (rows-list t n k) ∙ length_to (row_at t n) k

pub length-requests : (t : List ℕ) (k : ℕ) → length (requests_to t k) ≡ k
length-requests t k = ap length (requests-list t k) ∙ length_to (request_at t) k

-- each place below m * k is a slot of one of m columns of k words
at_place : (P : ℕ → Type 0) (k m : ℕ) → ((c j : ℕ) → c < m → j < k → P (c * k + j)) → (i : ℕ) → i < m * k → P i
at_place P k zero f i h = absurd (omega arith)
at_place P k (suc m) f i h =
    ⊎_elim (λ lt. at_place P k m (λ c j hc hj. f c j (omega arith) hj) i lt)
    (λ ge. let e : m * k + (i - m * k) ≡ i = omega arith in subst P e (f m (i - m * k) (omega arith) (omega (arith, suc-mul m k)))) (lt-or-ge i (m * k))

module _ (t p : List ℕ) where
  items-read : items_few (state_of t p).requests ≡ true
  unfolding items_few state_of request_at most_items
  items-read = rw (requests-list t (requests_in t)) (all-to (request_at t) (λ v. eqb (length v.items) 4) (requests_in t) (λ i. refl))

  well-read : RowsLaid t (rows_in t) → RequestsLaid t (requests_in t) → laid_well (state_of t p) ≡ true
  unfolding laid_well rows_rise requests_rise rows_fit requests_fit row_slots request_slots state_of
  well-read rows requests =
      rw (rows-read-rise t (rows_in t) rows, requests-read-rise t (requests_in t) requests, length-rows t (rows_in t) (rows_in t), length-requests t (requests_in t))
      (rw (le-leb (rows_in t) 1024 (rows_few t), le-leb (requests_in t) 128 (requests-few t), items-read) (rows-read-older t (rows_in t) rows))

  module _ (rows : RowsLaid t (rows_in t)) (requests : RequestsLaid t (requests_in t)) where
    rep : Represents (words_of (state_of t p)) (state_of t p)
    rep = record { well = well-read rows requests; words = refl }

    row_same : (i : ℕ) → i < 10240 → get_or t i 0 ≡ get_or (words_of (state_of t p)) i 0
    unfolding state_of
    row_same =
        at_place (λ i. get_or t i 0 ≡ get_or (words_of (state_of t p)) i 0) 1024 10
        (λ c j hc hj. row_laid t (rows_in t) rows c j hc hj ∙ sym (represented-row rep c j hc hj))

    request-same : (i : ℕ) → i < 1024 → get_or t (10240 + i) 0 ≡ get_or (words_of (state_of t p)) (10240 + i) 0
    unfolding state_of
    request-same =
        at_place (λ i. get_or t (10240 + i) 0 ≡ get_or (words_of (state_of t p)) (10240 + i) 0) 128 8
        (λ c j hc hj. request-laid t (requests_in t) requests c j hc hj ∙ sym (represented-request rep c j hc hj))

    next-same : get_or t 11264 0 ≡ get_or (words_of (state_of t p)) 11264 0
    unfolding state_of next_at requests_at row_columns request_columns row_slots request_slots
    next-same = sym (represented-next rep)

    word_same : (i : ℕ) → i < 11265 → get_or t i 0 ≡ get_or (words_of (state_of t p)) i 0
    word_same i h =
        ⊎_elim (λ lt. row_same i lt)
        (λ ge.
        ⊎_elim
        (λ lt. let e : 10240 + (i - 10240) ≡ i = omega arith in subst (λ (k : ℕ). get_or t k 0 ≡ get_or (words_of (state_of t p)) k 0) e (request-same (i - 10240) (omega arith)))
        (λ top. let e : 11264 ≡ i = omega arith in subst (λ (k : ℕ). get_or t k 0 ≡ get_or (words_of (state_of t p)) k 0) e next-same) (lt-or-ge i 11264))
        (lt-or-ge i 10240)

    -- where rows and requests are laid in the words, they represent the state read from them
    pub laid-represents : length t ≡ 11265 → Represents t (state_of t p)
    laid-represents long =
        record { well = well-read rows requests; words = ext_get_or 0 t (words_of (state_of t p)) (long ∙ sym (represented-length rep)) (λ i h. word_same i (omega arith)) }

  -- and the other way round
  module _ (rep : Represents t (state_of t p)) where
    source-word : (c : ℕ) (f : Row → ℕ) → c < 10 → ((r : Row) (rs : List Row) → row_word c r rs ≡ source_slot rs (f r)) → (i : ℕ) → i < rows_in t → get_or t (c * 1024 + i) 0 ≤ i
    unfolding state_of
    source-word c f h word i lt =
        let rs : List Row = list_to (row_at t (rows_in t)) i in
        let r : Row = row_at t (rows_in t) i in
        let e : get_or t (c * 1024 + i) 0 ≡ source_slot rs (f r) =
        represented-row rep c i h (omega (arith, rows_few t))
        ∙ ap (λ (l : List Row). get_or (laid (row_word c) l) i 0) (rows-list t (rows_in t) (rows_in t))
        ∙ laid-to (row_at t (rows_in t)) (row_word c) (rows_in t) i lt
        ∙ word r rs in
        omega (arith, source-le rs (f r), length_to (row_at t (rows_in t)) i)

    pub represented-rows-laid : RowsLaid t (rows_in t)
    unfolding state_of row_word slotted with_sources
    represented-rows-laid =
        record {
          numbers =
              to-rises (row_at t (rows_in t)) (λ r. r.number) t (number_word t (rows_in t)) (rows_in t)
              (rw (rows-list t (rows_in t) (rows_in t)) at (represented-well rep).rows-rise);
          sources = source-word 6 (λ r. r.source) (omega arith) (λ r rs. refl);
          vias = source-word 7 (λ r. r.via) (omega arith) (λ r rs. refl);
          unused = λ c i h ge hi. represented-row rep c i h hi ∙ laid-past (row_word c) (rows_to t (rows_in t) (rows_in t)) i (omega (arith, length-rows t (rows_in t) (rows_in t)));
        }

    pub represented-requests-laid : RequestsLaid t (requests_in t)
    unfolding state_of
    represented-requests-laid =
        record {
          numbers =
              to-rises (request_at t) (λ v. v.number) (drop 10240 t) (request-number-word t) (requests_in t)
              (rw (requests-list t (requests_in t)) at (represented-well rep).requests-rise);
          unused = λ c i h ge hi. represented-request rep c i h hi ∙ laid-past (request_word c) (requests_to t (requests_in t)) i (omega (arith, length-requests t (requests_in t)));
        }
