-- What changes in place do: of every state that the words t represent before, the words u represent that state with the change after.
use Rattle.std.specs.Prelude.{ℕ, suc, ◌<◌, Bool, true, not, List, ◌∷◌, ◌≡◌, length, set}
use Rattle.rows.specs.declared.Row.{Row}
use Rattle.rows.specs.declared.Request.{Request}
use Rattle.rows.specs.Lists.{top_of, filter, member}
use Rattle.rows.specs.Tables.{State}
use Rattle.rows.specs.Setters.{with_rows, with_requests, with_next, with_items, with_fetched}
use Rattle.rows.specs.Layout.{row_slot}
use Rattle.rows.specs.vocabulary.Represents.{Represents, change_row, change_request}
use Rattle.rows.specs.vocabulary.Slots.{request_slot, with_source_numbers}
use Rattle.changes.specs.vocabulary.Marks.{closed_under, MarkedRows, MarkedRequests}

-- ---- one row or request changed
-- the row in slot i becomes what g makes of it
abbrev pub ChangesRow : List ℕ → List ℕ → ℕ → (Row → Row) → Type 0
ChangesRow t u i g = (st : State) (n : ℕ) → Represents t st → row_slot st.rows n ≡ suc i → Represents u (change_row n g st)

-- the request in slot j becomes what g makes of it
abbrev pub ChangesRequest : List ℕ → List ℕ → ℕ → (Request → Request) → Type 0
ChangesRequest t u j g = (st : State) (q : ℕ) → Represents t st → request_slot st.requests q ≡ suc j → Represents u (change_request q g st)

-- the item at position k of the list leaves it
unfoldable pub item_cleared : ℕ → Request → Request
item_cleared k v = with_items (set v.items k 0) v

unfoldable pub as_fetched : Request → Request
as_fetched v = with_fetched 1 v

-- ---- one more
-- after the count rows there are comes w, its sources given by slot plus 1, if its number is above theirs
abbrev pub AddsRow : List ℕ → List ℕ → ℕ → Row → Type 0
AddsRow t u count w =
    (st : State) → Represents t st → count ≡ length st.rows → top_of (λ r. r.number) st.rows < w.number
    → Represents u (with_rows (with_source_numbers st.rows w ∷ st.rows) st)

-- after the count requests there are comes v, if its number is above theirs
abbrev pub AddsRequest : List ℕ → List ℕ → ℕ → Request → Type 0
AddsRequest t u count v =
    (st : State) → Represents t st → count ≡ length st.requests → top_of (λ v. v.number) st.requests < v.number
    → Represents u (with_requests (v ∷ st.requests) st)

-- ---- the next number becomes n
abbrev pub SetsNext : List ℕ → List ℕ → ℕ → Type 0
SetsNext t u n = (st : State) → Represents t st → Represents u (with_next n st)

-- ---- marked ones removed
-- of the count rows there are the marked ones go, if no row that is left has a source among them
abbrev pub RemovesRows : List ℕ → List ℕ → ℕ → List Bool → Type 0
RemovesRows t u count ms =
    (st : State) (g : List ℕ) → Represents t st → count ≡ length st.rows → MarkedRows ms g st.rows → closed_under g st.rows ≡ true
    → Represents u (with_rows (filter (λ r. not (member r.number g)) st.rows) st)

-- the marked requests go
abbrev pub RemovesRequests : List ℕ → List ℕ → List Bool → Type 0
RemovesRequests t u ms =
    (st : State) (f : Request → Bool) → Represents t st → MarkedRequests ms f st.requests
    → Represents u (with_requests (filter (λ v. not (f v)) st.requests) st)
