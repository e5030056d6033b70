-- What the look-ups that the calls share answer, over words that represent a state with so many rows or requests.
use Rattle.std.specs.Prelude.{ℕ, suc, ◌≤◌, List, ◌≡◌, eqb, length, if◌then◌else◌}
use Rattle.std.specs.Prelude.{Option}
use Rattle.std.specs.Prelude.{None}
use Rattle.rows.specs.Tables.{State, row_of, depth_over}
use Rattle.rows.specs.Layout.{row_slot}
use Rattle.rows.specs.Codes.{in_clist}
use Rattle.rows.specs.vocabulary.Represents.{Represents}
use Rattle.rows.specs.vocabulary.Sizes.{PROCESSES}
use Rattle.rows.specs.vocabulary.Slots.{found_slot, request_slot, open_slot}

-- the words represent the state, and n is how many rows it has; m how many requests
abbrev pub HasRows : List ℕ → ℕ → State → Type 0
HasRows t n st = Represents t st × (n ≡ length st.rows)

abbrev pub HasRequests : List ℕ → ℕ → State → Type 0
HasRequests t m st = Represents t st × (m ≡ length st.requests)

-- the row e stands in slot i
abbrev pub StandsAt : State → ℕ → ℕ → Type 0
StandsAt st e i = row_slot st.rows e ≡ suc i

-- the slot of the row e where it is in the place, as a look-up answers it
unfoldable pub slot_in : State → ℕ → ℕ → Option ℕ
slot_in st place e = if eqb (row_of st.rows e).place place then found_slot (row_slot st.rows e) else None

-- r is the slot of row e, where it is in the place
abbrev pub FindsIn : List ℕ → ℕ → ℕ → ℕ → Option ℕ → Type 0
FindsIn t n place e r = (st : State) → HasRows t n st → r ≡ slot_in st place e

-- r is the slot of row e, where process p holds it
abbrev pub FindsHeld : List ℕ → ℕ → ℕ → ℕ → Option ℕ → Type 0
FindsHeld t n p e r = (st : State) → HasRows t n st → p ≤ PROCESSES → r ≡ slot_in st (in_clist p) e

-- r is the slot of the request q; of the newest request on port c
abbrev pub FindsRequestAmong : List ℕ → ℕ → ℕ → Option ℕ → Type 0
FindsRequestAmong t m q r = (st : State) → HasRequests t m st → r ≡ found_slot (request_slot st.requests q)

abbrev pub FindsOpenAmong : List ℕ → ℕ → ℕ → Option ℕ → Type 0
FindsOpenAmong t m c r = (st : State) → HasRequests t m st → r ≡ found_slot (open_slot st.requests c)

-- r is the source word of row e: its slot plus 1, 0 where there is none
abbrev pub IsWord : List ℕ → ℕ → ℕ → ℕ → Type 0
IsWord t n e r = (st : State) → HasRows t n st → r ≡ row_slot st.rows e

-- r is the source word that the row in slot i has for its first source
abbrev pub IsSourceWord : List ℕ → ℕ → ℕ → ℕ → Type 0
IsSourceWord t n i r =
    (st : State) (e : ℕ) → HasRows t n st → StandsAt st e i → r ≡ row_slot st.rows (row_of st.rows e).source

-- r is the depth of the row at a source word
abbrev pub IsDepth : List ℕ → ℕ → ℕ → Type 0
IsDepth t s r = (st : State) (e : ℕ) → Represents t st → row_slot st.rows e ≡ s → r ≡ (row_of st.rows e).depth

-- the greatest depth of a row
abbrev pub LAST-DEPTH : ℕ
LAST-DEPTH = 12

-- the row e is no deeper than a row may be
abbrev pub NotTooDeep : State → ℕ → Type 0
NotTooDeep st e = (row_of st.rows e).depth ≤ LAST-DEPTH

-- r is the depth of a row whose sources are at two source words
abbrev pub IsDepthOver : List ℕ → ℕ → ℕ → ℕ → Type 0
IsDepthOver t s v r =
    (st : State) (a b : ℕ) → Represents t st → row_slot st.rows a ≡ s → row_slot st.rows b ≡ v
    → NotTooDeep st a → NotTooDeep st b
    → r ≡ depth_over st.rows a b
