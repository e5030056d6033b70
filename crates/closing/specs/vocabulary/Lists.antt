-- Lists and places as the pass over the requests, from the oldest on, leaves them, before what is marked is removed;
-- and what the functions of the pass say.
use Rattle.std.specs.Prelude.{ℕ, ◌≤◌, Bool, true, false, not, ◌&&◌, ◌||◌, List, [], ◌∷◌, ◌++◌, map, ◌≡◌, length, if◌then◌else◌}
use Rattle.rows.specs.declared.Row.{Row}
use Rattle.rows.specs.declared.Request.{Request}
use Rattle.rows.specs.Lists.{all, pad, member, some, nonzero}
use Rattle.rows.specs.Codes.{in_clist}
use Rattle.rows.specs.Tables.{State, numbers}
use Rattle.rows.specs.Sound.{sound}
use Rattle.rows.specs.vocabulary.Sizes.{ROWS, PROCESSES}
use Rattle.rows.specs.vocabulary.Represents.{Represents}
use Rattle.rows.specs.Setters.{with_rows, with_requests, with_place, with_items}
use Rattle.changes.specs.vocabulary.Changes.{item_cleared}
use Rattle.changes.specs.vocabulary.Marks.{tested}
use Rattle.closing.specs.Closing.{returned, leaves, trimmed}
use Rattle.closing.specs.vocabulary.Marks.{RowCount, RequestCount, Stands, RowsMarked, RequestsMarked}

-- a mark for each slot, of the row's number
unfoldable pub slot_marks : (ℕ → Bool) → List Row → List Bool
slot_marks b rows = pad false ROWS (tested (λ r. b r.number) rows)

-- the marks are at the slots of the rows whose numbers pass the test, and at no other slot
abbrev pub SlotsMarked : List Bool → (ℕ → Bool) → State → Type 0
SlotsMarked marks b st = marks ≡ slot_marks b st.rows

-- ---- the whole pass
-- each request that stays open is trimmed, one that closes is as it was
unfoldable pub trimmed_all : (Request → Bool) → List ℕ → List Request → List Request
trimmed_all f g [] = []
trimmed_all f g (v ∷ vs) = (if f v then v else trimmed f g vs v) ∷ trimmed_all f g vs

-- a row of g stays where it is, another one goes back if a request that closes lists it
unfoldable pub returned_unless : List ℕ → (Request → Bool) → List Request → Row → Row
returned_unless g f vs r = if member r.number g then r else returned f vs r

-- the state once the requests old are done, and those newer, new, are not
unfoldable pub partly_settled : List ℕ → (Request → Bool) → List Request → List Request → State → State
partly_settled g f new old st =
    with_rows (map (returned_unless g f old) st.rows) (with_requests (new ++ trimmed_all f g old) st)

-- the words represent it, and the rows that are out are marked: removed, or gone back
pub record SettledTo (g : List ℕ) (f : Request → Bool) (new old : List Request) (st : State) (t : List ℕ) (out : List Bool) : Type 0 where
  pub represents : Represents t (partly_settled g f new old st)
  pub marks : SlotsMarked out (leaves f g old) st

-- the rows of g are removed next, as are the requests that close
unfoldable pub lists_settled : List ℕ → (Request → Bool) → State → State
lists_settled g f st = partly_settled g f [] st.requests st

-- ---- one request
-- n is one of the items; 0 is none
unfoldable pub among : List ℕ → ℕ → Bool
among is n = some n && member n is

-- a row among the items goes to the c-list of p, if it is not out already
unfoldable pub back_row : (ℕ → Bool) → ℕ → List ℕ → Row → Row
back_row b p is r = if not (b r.number) && among is r.number then with_place (in_clist p) r else r

unfoldable pub items_back : (ℕ → Bool) → ℕ → List ℕ → State → State
items_back b p is st = with_rows (map (back_row b p is) st.rows) st

-- the state with the items' rows gone back, in words, and the marks of all that is out
pub record WentBack (b : ℕ → Bool) (p : ℕ) (is : List ℕ) (st : State) (t : List ℕ) (out : List Bool) : Type 0 where
  pub represents : Represents t (items_back b p is st)
  pub marks : SlotsMarked out (λ n. b n || among is n) st

-- the item e, at position k, leaves the list if it passes the test
unfoldable pub item_out : (ℕ → Bool) → ℕ → ℕ → Request → Request
item_out c k e v = if some e && c e then item_cleared k v else v

-- the items that pass the test leave the list
unfoldable pub items_out : (ℕ → Bool) → Request → Request
items_out c v = with_items (map (λ e. if c e then 0 else e) v.items) v

-- ---- what is said of a request first
-- v is in slot j: the requests new are newer, and old, j of them, are older
abbrev pub InSlot : ℕ → List Request → Request → List Request → State → Type 0
InSlot j new v old st = (st.requests ≡ new ++ (v ∷ old)) × (length old ≡ j)

-- every item that is not 0 is the number of a row
abbrev pub ItemsStand : State → List ℕ → Type 0
ItemsStand st is = all (λ e. member e (numbers st.rows)) (nonzero is) ≡ true

-- ---- what the functions say, of every state that the words t represent and that has n rows; u are the words after it
-- the rows of the items go to the c-list of p, in words and marks, except those marked, which are out already
abbrev pub SendsBack : ℕ → ℕ → List ℕ → List ℕ → List Bool → List ℕ → List Bool → Type 0
SendsBack n p is t out u out' =
    (st : State) (b : ℕ → Bool) → Represents t st → RowCount n st → p ≤ PROCESSES → SlotsMarked out b st
    → WentBack b p is st u out'

-- of the request in slot j the item e, at position k, leaves the list if its row is marked as out
abbrev pub ItemLeaves : ℕ → ℕ → ℕ → ℕ → List Bool → List ℕ → List ℕ → Type 0
ItemLeaves n j k e out t u =
    (st : State) (b : ℕ → Bool) (new : List Request) (v : Request) (old : List Request)
    → Represents t st → RowCount n st → InSlot j new v old st → (some e ≡ true → Stands st e) → SlotsMarked out b st
    → Represents u (with_requests (new ++ (item_out b k e v ∷ old)) st)

-- the same of all items of v, which is in slot j
abbrev pub ItemsLeave : ℕ → ℕ → Request → List Bool → List ℕ → List ℕ → Type 0
ItemsLeave n j v out t u =
    (st : State) (b : ℕ → Bool) (new old : List Request)
    → Represents t st → RowCount n st → InSlot j new v old st → ItemsStand st v.items → SlotsMarked out b st
    → Represents u (with_requests (new ++ (items_out b v ∷ old)) st)

-- once the requests older than the one in slot j are settled, it is too
abbrev pub SettlesNext : ℕ → ℕ → Bool → List ℕ → List Bool → List ℕ → List Bool → Type 0
SettlesNext n j closes t out u out' =
    (st : State) (g : List ℕ) (f : Request → Bool) (new : List Request) (v : Request) (old : List Request)
    → sound st ≡ true → RowCount n st → InSlot j new v old st → closes ≡ f v
    → SettledTo g f (new ++ (v ∷ [])) old st t out → SettledTo g f new (v ∷ old) st u out'

-- if the rows g and the requests that close are marked, the words u are those of the state with its lists settled
abbrev pub SettlesLists : ℕ → ℕ → List Bool → List Bool → List ℕ → List ℕ → Type 0
SettlesLists n m removed closed t u =
    (st : State) (g : List ℕ) (f : Request → Bool)
    → sound st ≡ true → Represents t st → RowCount n st → RequestCount m st → RowsMarked removed g st → RequestsMarked closed f st
    → Represents u (lists_settled g f st)
