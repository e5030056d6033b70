-- The words that represent a state: their length, what stands where, and how many slots are in use.
use Rattle.std.proofs.Common.{◌≡◌, ℕ, ◌+◌, ◌*◌, ◌<◌, ◌≤◌, true, List, [], ◌∷◌, ◌++◌, length, get_or, ap, ◌∙◌, mul-le-mul_right, suc-mul, arith, length-append, leb-true}
use lib.ListN.{get_or-append}
use lib.Seq.{get_or_at}
use Rattle.rows.specs.Lists.{rises, laid}
use Rattle.rows.specs.Limits.{row_slots, request_slots}
use Rattle.rows.specs.Tables.{State}
use Rattle.rows.specs.Sound.{rows_rise, requests_rise, rows_fit, requests_fit, items_few}
use Rattle.rows.specs.Layout.{row_columns, request_columns, requests_at, next_at, tables_length, row_word, request_word, row_words, request_words, words_of, rows_in, requests_in, slotted}
use Rattle.rows.specs.vocabulary.Represents.{sources_older, laid_well, Represents}
use Rattle.rows.proofs.Bools.{and_l, and_r}
use Rattle.rows.proofs.LayoutColumns.{get_d_after, length-columns, columns-at, slots-in-use}
use Rattle.rows.proofs.LayoutRows.{row-columns}
use Rattle.rows.proofs.LayoutRequests.{request-columns}
use Rattle.rows.specs.Setters.{with_sources}

-- ---- the parts of `laid_well`
pub record Well (st : State) : Type 0 where
  pub rows-rise : rises (λ r. r.number) st.rows ≡ true
  pub requests-rise : rises (λ v. v.number) st.requests ≡ true
  pub rows-fit : length st.rows ≤ 1024
  pub requests-fit : length st.requests ≤ 128
  pub items-few : items_few st.requests ≡ true
  pub sources-old : sources_older st.rows ≡ true

pub well-open : (st : State) → laid_well st ≡ true → Well st
unfolding laid_well rows_rise requests_rise rows_fit requests_fit row_slots request_slots
well-open st w =
    let a : rows_fit st.rows ≡ true = search (and_l, and_r) in
    let b : requests_fit st.requests ≡ true = search (and_l, and_r) in
    record {
      rows-rise = search and_l;
      requests-rise = search (and_l, and_r);
      rows-fit = leb-true (length st.rows) 1024 a;
      requests-fit = leb-true (length st.requests) 128 b;
      items-few = search (and_l, and_r);
      sources-old = search (and_l, and_r);
    }

module _ (st : State) (few-rows : length st.rows ≤ row_slots) (few-requests : length st.requests ≤ request_slots) where
  long-rows : length (row_words row_columns st.rows) ≡ requests_at
  unfolding requests_at
  long-rows = rw (row-columns row_columns st.rows) (length-columns row_slots row_word st.rows few-rows row_columns)

  long-requests : length (request_words request_columns st.requests) ≡ request_columns * request_slots
  long-requests = rw (request-columns request_columns st.requests) (length-columns request_slots request_word st.requests few-requests request_columns)

  pub long-words : length (words_of st) ≡ tables_length
  unfolding words_of tables_length next_at
  long-words =
      length-append (row_words row_columns st.rows) (request_words request_columns st.requests ++ (st.next ∷ []))
      ∙ omega (arith, length-append (request_words request_columns st.requests) (st.next ∷ []), long-rows, long-requests)

  pub row_at : (c i : ℕ) → c < row_columns → i < row_slots → get_or (words_of st) (c * row_slots + i) 0 ≡ get_or (laid (row_word c) st.rows) i 0
  unfolding words_of requests_at
  row_at c i h hi =
      get_or-append (row_words row_columns st.rows) (request_words request_columns st.requests ++ (st.next ∷ [])) 0 (c * row_slots + i)
      (omega (arith, long-rows, mul-le-mul_right row_slots h, suc-mul c row_slots))
      ∙ rw (row-columns row_columns st.rows) (columns-at row_slots row_word st.rows few-rows row_columns c i h hi)

  pub request-at : (c i : ℕ) → c < request_columns → i < request_slots → get_or (words_of st) (requests_at + (c * request_slots + i)) 0 ≡ get_or (laid (request_word c) st.requests) i 0
  unfolding words_of
  request-at c i h hi =
      get_d_after (row_words row_columns st.rows) (request_words request_columns st.requests ++ (st.next ∷ [])) requests_at (c * request_slots + i) long-rows
      ∙ get_or-append (request_words request_columns st.requests) (st.next ∷ []) 0 (c * request_slots + i)
      (omega (arith, long-requests, mul-le-mul_right request_slots h, suc-mul c request_slots))
      ∙ rw (request-columns request_columns st.requests) (columns-at request_slots request_word st.requests few-requests request_columns c i h hi)

  pub next-at : get_or (words_of st) next_at 0 ≡ st.next
  unfolding words_of next_at
  next-at =
      get_d_after (row_words row_columns st.rows) (request_words request_columns st.requests ++ (st.next ∷ [])) requests_at (request_columns * request_slots) long-rows
      ∙ get_or_at (request_words request_columns st.requests) st.next [] 0 (request_columns * request_slots) long-requests

  pub rows-in : rises (λ r. r.number) st.rows ≡ true → rows_in (words_of st) ≡ length st.rows
  unfolding rows_in row_columns row_word tables_length next_at requests_at slotted with_sources
  rows-in up =
      slots-in-use (λ r. r.number) st.rows 0 row_slots (words_of st) up few-rows (omega (arith, long-words))
      (λ i h. ap (λ (n : ℕ). get_or (words_of st) n 0) (omega arith) ∙ row_at 0 i (omega arith) h)

  pub requests-in : rises (λ v. v.number) st.requests ≡ true → requests_in (words_of st) ≡ length st.requests
  unfolding requests_in request_columns request_word tables_length next_at
  requests-in up =
      slots-in-use (λ v. v.number) st.requests requests_at request_slots (words_of st) up few-requests (omega (arith, long-words))
      (λ i h. ap (λ (n : ℕ). get_or (words_of st) n 0) (omega arith) ∙ request-at 0 i (omega arith) h)

-- ---- of words that represent a state
module _ {st : State} {t : List ℕ} (rep : Represents t st) where
  few : Well st
  few = well-open st rep.well

  at_words : (n : ℕ) → get_or t n 0 ≡ get_or (words_of st) n 0
  at_words n = ap (λ (l : List ℕ). get_or l n 0) rep.words

  pub represented-well : Well st
  represented-well = few

  pub represented-length : length t ≡ 11265
  unfolding row_slots request_slots tables_length next_at requests_at row_columns request_columns
  represented-length = ap length rep.words ∙ long-words st few.rows-fit few.requests-fit

  pub represented-rows : rows_in t ≡ length st.rows
  unfolding row_slots request_slots
  represented-rows = ap rows_in rep.words ∙ rows-in st few.rows-fit few.requests-fit few.rows-rise

  pub represented-requests : requests_in t ≡ length st.requests
  unfolding row_slots request_slots
  represented-requests = ap requests_in rep.words ∙ requests-in st few.rows-fit few.requests-fit few.requests-rise

  pub represented-next : get_or t 11264 0 ≡ st.next
  unfolding row_slots request_slots next_at requests_at row_columns request_columns
  represented-next = at_words 11264 ∙ next-at st few.rows-fit few.requests-fit

  -- the word at slot i of a column is that of the row, of the request there
  pub represented-row : (c i : ℕ) → c < 10 → i < 1024 → get_or t (c * 1024 + i) 0 ≡ get_or (laid (row_word c) st.rows) i 0
  unfolding row_slots request_slots row_columns
  represented-row c i h g = at_words (c * 1024 + i) ∙ row_at st few.rows-fit few.requests-fit c i h g

  pub represented-request : (c j : ℕ) → c < 8 → j < 128 → get_or t (10240 + (c * 128 + j)) 0 ≡ get_or (laid (request_word c) st.requests) j 0
  unfolding row_slots request_slots requests_at row_columns request_columns
  represented-request c j h g = at_words (10240 + (c * 128 + j)) ∙ request-at st few.rows-fit few.requests-fit c j h g
