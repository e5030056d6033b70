-- Marks of what a closing takes: the rows that are removed and the requests that close; and what the functions that make or read marks say.
use Rattle.std.specs.Prelude.{ℕ, ◌-◌, ◌≤◌, Bool, true, false, not, ◌||◌, List, ◌∷◌, ◌++◌, ◌≡◌, length, get_or}
use Rattle.rows.specs.declared.Row.{Row}
use Rattle.rows.specs.declared.Request.{Request}
use Rattle.rows.specs.Lists.{pad, member, filter}
use Rattle.rows.specs.Tables.{State, numbers, marked}
use Rattle.rows.specs.Sound.{sound}
use Rattle.rows.specs.vocabulary.Sizes.{ROWS, REQUESTS}
use Rattle.rows.specs.vocabulary.Represents.{Represents}
use Rattle.changes.specs.vocabulary.Marks.{tested, marks_of}
use Rattle.closing.specs.declared.Seed.{Seed}
use Rattle.closing.specs.Closing.{closes}
use Rattle.closing.specs.vocabulary.Seeds.{seed_of, closes_of}

-- ---- what is said of a state first
-- it has n rows; m requests; a row numbered e
abbrev pub RowCount : ℕ → State → Type 0
RowCount n st = n ≡ length st.rows

abbrev pub RequestCount : ℕ → State → Type 0
RequestCount m st = m ≡ length st.requests

abbrev pub Stands : State → ℕ → Type 0
Stands st e = member e (numbers st.rows) ≡ true

-- the marks are at the slots of the rows whose numbers are in g, and at no other slot
abbrev pub RowsMarked : List Bool → List ℕ → State → Type 0
RowsMarked removed g st = removed ≡ pad false ROWS (marks_of g st.rows)

-- the mark of the row that the word of a source names: its slot plus 1, or 0 for none
unfoldable pub word_mark : List Bool → ℕ → Bool
word_mark ms s = get_or (false ∷ ms) s false

unfoldable pub either_mark : List Bool → ℕ → ℕ → Bool
either_mark ms s v = word_mark ms s || word_mark ms v

-- the i oldest rows are marked if they are seeds or come from one, the others if they are seeds
abbrev pub DerivedTo : Seed → State → ℕ → List Bool → Type 0
DerivedTo s st i ms =
    (new old : List Row) → st.rows ≡ new ++ old → length old ≡ i
    → ms ≡ pad false ROWS (marks_of (marked (seed_of s) st.rows) old ++ tested (seed_of s) new)

-- the marks are at the slots of the requests that pass the test, and at no other slot
abbrev pub RequestsMarked : List Bool → (Request → Bool) → State → Type 0
RequestsMarked closed f st = closed ≡ pad false REQUESTS (tested f st.requests)

-- ---- what the functions say, of every state that the words t represent and that has n rows (and m requests)
-- r marks the seeds
abbrev pub MarksSeeds : List ℕ → ℕ → Seed → List Bool → Type 0
MarksSeeds t n s r = (st : State) → Represents t st → RowCount n st → DerivedTo s st 0 r

-- once the i oldest rows are done, the j oldest are
abbrev pub MarksOn : List ℕ → ℕ → ℕ → List Bool → List Bool → Type 0
MarksOn t i j ms ms' = (st : State) (s : Seed) → Represents t st → j ≤ length st.rows → DerivedTo s st i ms → DerivedTo s st j ms'

-- r marks the seeds and the rows that come from them
abbrev pub MarksRows : List ℕ → ℕ → Seed → List Bool → Type 0
MarksRows t n s r = (st : State) → Represents t st → RowCount n st → RowsMarked r (marked (seed_of s) st.rows) st

-- r is the rows before less the rows after, if the rows g are marked
abbrev pub CountsRemoved : ℕ → List Bool → ℕ → Type 0
CountsRemoved n removed r =
    (st : State) (g : List ℕ) → RowCount n st → RowsMarked removed g st
    → r ≡ length st.rows - length (filter (λ x. not (member x.number g)) st.rows)

-- r says of the number of a row whether it is in g, whose rows are marked
abbrev pub TellsMark : List ℕ → ℕ → ℕ → List Bool → Bool → Type 0
TellsMark t n e marks r = (st : State) (g : List ℕ) → Represents t st → RowCount n st → RowsMarked marks g st → Stands st e → r ≡ member e g

-- if the rows g are marked, r marks the requests that close with them
abbrev pub MarksRequests : List ℕ → ℕ → ℕ → List Bool → Seed → List Bool → Type 0
MarksRequests t n m removed s r =
    (st : State) (g : List ℕ) → sound st ≡ true → Represents t st → RowCount n st → RequestCount m st → RowsMarked removed g st
    → RequestsMarked r (closes (closes_of s) g) st
