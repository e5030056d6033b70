-- What the first stage of soundness tests over the words: numbers rise, sources stand before their rows, unused slots are 0.
use Rattle.std.specs.Prelude.{ℕ, zero, suc, ◌+◌, ◌*◌, ◌<◌, ◌≤◌, Bool, true, List, ◌≡◌, get_or, drop}
use Rattle.rows.specs.vocabulary.Sizes.{ROWS, REQUESTS, ROW-COLUMNS, REQUEST-COLUMNS, SOURCE, VIA, Q-NUMBER}

-- the answer r is true exactly if p holds
pub record Decides (r : Bool) (p : Type 0) : Type 0 where
  pub holds : r ≡ true → p
  pub says : p → r ≡ true

-- the word before position i, 0 for none
unfoldable pub before : List ℕ → ℕ → ℕ
before l zero = 0
before l (suc i) = get_or l i 0

-- the first k words rise, from above 0
unfoldable pub Rising : ℕ → List ℕ → Type 0
Rising k l = (i : ℕ) → i < k → before l i < get_or l i 0

-- each of the first k words is a slot before its own, plus 1, or 0
unfoldable pub Older : ℕ → List ℕ → Type 0
Older k l = (i : ℕ) → i < k → get_or l i 0 ≤ i

-- the words from position k on are 0
unfoldable pub ZeroFrom : ℕ → List ℕ → Type 0
ZeroFrom k l = (i : ℕ) → k ≤ i → get_or l i 0 ≡ 0

-- the slots from k on are 0 in each of so many columns of one size, which stand one after another from position a on
abbrev pub ColumnsUnused : List ℕ → ℕ → ℕ → ℕ → ℕ → Type 0
ColumnsUnused t a size columns k = (c i : ℕ) → c < columns → k ≤ i → i < size → get_or t (a + (c * size + i)) 0 ≡ 0

-- the slots from n on are 0 in each column of rows
abbrev pub RowsUnused : List ℕ → ℕ → Type 0
RowsUnused t n = (c i : ℕ) → c < ROW-COLUMNS → n ≤ i → i < ROWS → get_or t (c * ROWS + i) 0 ≡ 0

-- the slots from m on are 0 in each column of requests
abbrev pub RequestsUnused : List ℕ → ℕ → Type 0
RequestsUnused t m = (c i : ℕ) → c < REQUEST-COLUMNS → m ≤ i → i < REQUESTS → get_or t (Q-NUMBER + (c * REQUESTS + i)) 0 ≡ 0

-- t has n rows from the first slot on, and nothing after them
pub record RowsLaid (t : List ℕ) (n : ℕ) : Type 0 where
  pub numbers : Rising n t
  pub sources : (i : ℕ) → i < n → get_or t (SOURCE + i) 0 ≤ i
  pub vias : (i : ℕ) → i < n → get_or t (VIA + i) 0 ≤ i
  pub unused : RowsUnused t n

-- t has m requests from the first slot on, and nothing after them
pub record RequestsLaid (t : List ℕ) (m : ℕ) : Type 0 where
  pub numbers : Rising m (drop Q-NUMBER t)
  pub unused : RequestsUnused t m
