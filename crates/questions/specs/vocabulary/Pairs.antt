-- What one pass for many pairs says, over the lent words: of each row, by bits, from which of the requests it comes.
use Rattle.std.specs.Prelude.{ℕ, suc, ◌≤◌, ◌<◌, true, List, ◌≡◌, eqb, length, get_or}
use Rattle.rows.specs.Lists.{some}
use Rattle.rows.specs.Tables.{State, comes_from}
use Rattle.rows.specs.Sound.{sound}
use Rattle.rows.specs.Layout.{row_slot}
use Rattle.rows.specs.vocabulary.Sizes.{ROWS}
use Rattle.rows.specs.vocabulary.Represents.{Represents}
use Rattle.changes.specs.vocabulary.Bits.{bit}
use Rattle.questions.specs.vocabulary.Questions.{RowAt}

-- the pairs of one pass (src/pairs.rt)
abbrev pub PAIRS : ℕ
PAIRS = 16

-- the marks at a source word: a slot plus 1, 0 for no row
abbrev pub mark_at : List ℕ → ℕ → ℕ
mark_at marks s = get_or marks s 0

-- marks for every source word, at 0 none
abbrev pub NoneYet : List ℕ → Type 0
NoneYet marks = (length marks ≡ suc ROWS) × (mark_at marks 0 ≡ 0)

-- bit k of r says whether pair k asks of request q
abbrev pub BitsOfAsking : List ℕ → ℕ → ℕ → Type 0
BitsOfAsking qs q r = (k : ℕ) → k < PAIRS → bit r k ≡ eqb (get_or qs k 0) q

-- bit k of m says whether row n comes from the request of pair k, where there is such a pair
abbrev pub PairsOf : State → List ℕ → ℕ → ℕ → Type 0
PairsOf st qs n m =
    (k : ℕ) → k < PAIRS → some (get_or qs k 0) ≡ true → bit m k ≡ comes_from st.rows (get_or qs k 0) n

-- the marks up to the source word w are right, of every sound state that the words t represent
abbrev pub MarksPairs : List ℕ → ℕ → List ℕ → List ℕ → Type 0
MarksPairs t w qs marks =
    (st : State) (n : ℕ) → sound st ≡ true → Represents t st → row_slot st.rows n ≤ w
    → PairsOf st qs n (mark_at marks (row_slot st.rows n))

-- r are the marks of the row in slot i, if those of all older rows are right
abbrev pub MarksRow : List ℕ → ℕ → List ℕ → List ℕ → ℕ → Type 0
MarksRow t i qs marks r =
    MarksPairs t i qs marks → (st : State) (n : ℕ) → sound st ≡ true → Represents t st → RowAt i n st
    → PairsOf st qs n r
