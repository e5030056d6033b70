-- What the exported functions say beside the contracts of those under them: where the arguments fit, and what holds where they do not.
use Rattle.std.specs.Prelude.{ℕ, suc, ◌<◌, ◌≤◌, Bool, true, List, ◌≡◌, length, get_or}
use Rattle.rows.specs.declared.Row.{Row}
use Rattle.rows.specs.declared.Request.{Request}
use Rattle.rows.specs.Lists.{some}
use Rattle.rows.specs.Tables.{State, on_loan, comes_from, is_lent, first_chain}
use Rattle.rows.specs.Sound.{sound}
use Rattle.rows.specs.Layout.{words_of_row, row_from, words_of_request, request_from, row_slot, raw_row, request_at, records_in, records_of}
use Rattle.rows.specs.vocabulary.Represents.{Represents}
use Rattle.rows.specs.vocabulary.Sizes.{ROWS, REQUESTS, ITEMS, IsTables, IsRecords}
use Rattle.changes.specs.vocabulary.Changes.{AddsRow, AddsRequest}
use Rattle.questions.specs.vocabulary.Questions.{Written}

-- what holds where the arguments do not fit
abbrev pub Unless : Type 0 → Type 0 → Type 0
Unless fits other = (fits → ⊥) → other

-- ---- reading
-- out is the words of the row at slot i, of the request at slot j
abbrev pub ReadsRow : List ℕ → ℕ → List ℕ → Type 0
ReadsRow t i out = IsTables t × (i < ROWS) → out ≡ words_of_row (raw_row t i)

abbrev pub ReadsRequest : List ℕ → ℕ → List ℕ → Type 0
ReadsRequest t j out = IsTables t × (j < REQUESTS) → out ≡ words_of_request (request_at t j)

-- the records of p are stored in q, which becomes v; unless both have the length of records, q stays
abbrev pub StoresRecords : List ℕ → List ℕ → List ℕ → Type 0
StoresRecords p q v = IsRecords p × IsRecords q → v ≡ records_of (records_in p)

abbrev pub RecordsStay : List ℕ → List ℕ → List ℕ → Type 0
RecordsStay p q v = Unless (IsRecords p × IsRecords q) (v ≡ q)

-- ---- questions
-- r says whether e, which is not 0, is on loan
abbrev pub TellsOnLoan : List ℕ → ℕ → Bool → Type 0
TellsOnLoan t e r = (st : State) → Represents t st → some e ≡ true → r ≡ on_loan st.requests e

-- r says whether the row in slot e comes from request q; whether it is lent
abbrev pub TellsComesFrom : List ℕ → ℕ → ℕ → Bool → Type 0
TellsComesFrom t e q r =
    (st : State) (n : ℕ) → sound st ≡ true → Represents t st → row_slot st.rows n ≡ suc e → some q ≡ true → r ≡ comes_from st.rows q n

abbrev pub TellsLent : List ℕ → ℕ → Bool → Type 0
TellsLent t e r = (st : State) (n : ℕ) → sound st ≡ true → Represents t st → row_slot st.rows n ≡ suc e → r ≡ is_lent st n

-- tables, a slot of theirs, and words for a chain of every length
abbrev pub ChainFits : List ℕ → ℕ → List ℕ → Type 0
ChainFits t e chain = IsTables t × (e < ROWS) × (12 ≤ length chain)

-- the first chain of the row in slot e is written in front, r numbers
abbrev pub ChainWritten : List ℕ → ℕ → List ℕ → List ℕ → ℕ → Type 0
ChainWritten t e before after r =
    ChainFits t e before → (st : State) (n : ℕ) → sound st ≡ true → Represents t st → row_slot st.rows n ≡ suc e
    → Written (first_chain st.rows n) before after r

abbrev pub NoChain : List ℕ → ℕ → List ℕ → List ℕ → ℕ → Type 0
NoChain t e before after r = Unless (ChainFits t e before) ((after ≡ before) × (r ≡ 0))

-- ---- changes
-- the row and the request of words in the order of the columns
abbrev pub row_of_words : List ℕ → Row
row_of_words w = row_from (λ c. get_or w c 0)

abbrev pub request_of_words : List ℕ → Request
request_of_words w = request_from (λ c. get_or w c 0)

-- tables, a request's slot and an item
abbrev pub ItemFits : List ℕ → ℕ → ℕ → Type 0
ItemFits t j k = IsTables t × (j < REQUESTS) × (k < ITEMS)

-- tables, a slot that is free, and the words of a row whose sources stand before it
abbrev pub RowFits : List ℕ → ℕ → List ℕ → Type 0
RowFits t count w = IsTables t × (count < ROWS) × ((row_of_words w).source ≤ count) × ((row_of_words w).via ≤ count)

-- the row of the words w is added; the request of the words w
abbrev pub AddsRowOf : List ℕ → List ℕ → ℕ → List ℕ → Type 0
AddsRowOf t u count w = RowFits t count w → AddsRow t u count (row_of_words w)

abbrev pub AddsRequestOf : List ℕ → List ℕ → ℕ → List ℕ → Type 0
AddsRequestOf t u count w = IsTables t × (count < REQUESTS) → AddsRequest t u count (request_of_words w)

-- ---- closing
-- the sound tables t with the records p become u with the records v: the state is closed by f
abbrev pub Closes : (State → State) → List ℕ → List ℕ → List ℕ → List ℕ → Type 0
Closes f t u p v =
    IsRecords p → (st : State) → sound st ≡ true → Represents t st → st.processes ≡ records_in p
    → Represents u (f st) × (v ≡ records_of (f st).processes)

-- unless both runs have their lengths, both stay
abbrev pub BothStay : List ℕ → List ℕ → List ℕ → List ℕ → Type 0
BothStay t u p v = Unless (IsTables t × IsRecords p) ((u ≡ t) × (v ≡ p))
