-- What fetch and ask do to the lent words: rows that go to a place, items lent one after the other.
use Rattle.std.specs.Prelude.{ℕ, suc, ◌≤◌, List, map, ◌≡◌, if◌then◌else◌}
use Rattle.rows.specs.declared.Row.{Row}
use Rattle.rows.specs.Tables.{State, open_on}
use Rattle.rows.specs.Setters.{with_rows, with_place}
use Rattle.rows.specs.vocabulary.Represents.{Represents}
use Rattle.rows.specs.vocabulary.Slots.{open_slot}
use Rattle.rows.specs.vocabulary.Sizes.{PROCESSES}
use Rattle.closing.specs.vocabulary.Lists.{among}
use Rattle.calls.specs.Loans.{handed_over}
use Rattle.calls.specs.vocabulary.Lookups.{HasRows}

-- ---- fetch
-- a row among the items goes to the place; item 0 is none
unfoldable pub placed_among : List ℕ → ℕ → Row → Row
placed_among is place r = if among is r.number then with_place place r else r

unfoldable pub items_placed : List ℕ → ℕ → State → State
items_placed is place st = with_rows (map (placed_among is place) st.rows) st

abbrev pub ItemsPlaced : List ℕ → ℕ → List ℕ → ℕ → List ℕ → Type 0
ItemsPlaced t n is place after = (st : State) → HasRows t n st → Represents after (items_placed is place st)

-- the request open on port c stands in slot j
abbrev pub OpenAt : State → ℕ → ℕ → Type 0
OpenAt st c j = open_slot st.requests c ≡ suc j

abbrev pub HandedOver : List ℕ → ℕ → ℕ → ℕ → List ℕ → Type 0
HandedOver t n j p after =
    (st : State) (c : ℕ) → HasRows t n st → OpenAt st c j → p ≤ PROCESSES
    → Represents after (handed_over p (open_on st.requests c) st)
