-- What look-ups answer, of every state that the words represent.
use Rattle.std.specs.Prelude.{◌≡◌, ℕ, List, length}
use Rattle.std.specs.Prelude.{Option}
use Rattle.rows.specs.Tables.{State}
use Rattle.rows.specs.Layout.{row_slot}
use Rattle.rows.specs.vocabulary.Represents.{Represents}
use Rattle.rows.specs.vocabulary.Slots.{found_slot, request_slot, open_slot}

-- r is the number of rows; of open requests
abbrev pub CountsRows : List ℕ → ℕ → Type 0
CountsRows t r = (st : State) → Represents t st → r ≡ length st.rows

abbrev pub CountsRequests : List ℕ → ℕ → Type 0
CountsRequests t r = (st : State) → Represents t st → r ≡ length st.requests

-- r is the slot of the row numbered n, where the rows are count in number
abbrev pub FindsRowAmong : List ℕ → ℕ → ℕ → Option ℕ → Type 0
FindsRowAmong t count n r = (st : State) → Represents t st → count ≡ length st.rows → r ≡ found_slot (row_slot st.rows n)

-- r is the slot of the row numbered n
abbrev pub FindsRow : List ℕ → ℕ → Option ℕ → Type 0
FindsRow t n r = (st : State) → Represents t st → r ≡ found_slot (row_slot st.rows n)

-- r is the slot of the request numbered q
abbrev pub FindsRequest : List ℕ → ℕ → Option ℕ → Type 0
FindsRequest t q r = (st : State) → Represents t st → r ≡ found_slot (request_slot st.requests q)

-- r is the slot of the newest request on the port whose client end is c
abbrev pub FindsOpen : List ℕ → ℕ → Option ℕ → Type 0
FindsOpen t c r = (st : State) → Represents t st → r ≡ found_slot (open_slot st.requests c)
