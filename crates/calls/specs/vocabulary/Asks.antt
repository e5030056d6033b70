-- What the functions of ask answer: the items with their rows looked up, the tests of each item, the items lent one after the other.
use Rattle.std.specs.Prelude.{Option, Some, None, All, map, ℕ, suc, ◌+◌, ◌<◌, ◌≤◌, Bool, true, false, not, ◌&&◌, List, [], ◌∷◌, ◌≡◌, length, if◌then◌else◌}
use Rattle.rows.specs.Lists.{any, filter, some, pad, top_of}
use Rattle.rows.specs.Tables.{State, row_of}
use Rattle.rows.specs.Setters.{with_rows, with_place}
use Rattle.rows.specs.Sound.{sound}
use Rattle.rows.specs.Layout.{row_slot}
use Rattle.rows.specs.vocabulary.Represents.{Represents}
use Rattle.rows.specs.vocabulary.Sizes.{ROWS, REQUESTS, PROCESSES, ITEMS, LAST-NEXT}
use Rattle.calls.specs.declared.Item.{Item}
use Rattle.calls.specs.declared.ItemRow.{ItemRow}
use Rattle.calls.specs.declared.NewRequest.{NewRequest}
use Rattle.calls.specs.declared.Loan.{Loan}
use Rattle.calls.specs.declared.Answer.{Answer}
use Rattle.calls.specs.declared.Call.TheVariants.{Ask}
use Rattle.calls.specs.Rules.{◌when◌, lowest, not_held, has_open, too_deep, rows_full, requests_full, numbers_spent}
use Rattle.calls.specs.Loans.{items_of, moves, copies, copy_depth, Lending, lend_end, lend_copy, lend_item, lend_items, with_request}
use Rattle.calls.specs.Calls.{lacks_right, is_busy, refusals_ask, perform}
use Rattle.calls.specs.vocabulary.Lookups.{HasRows, HasRequests, StandsAt}
use Rattle.calls.specs.vocabulary.Performs.{Answers, HeldAt}
use Rattle.calls.specs.vocabulary.Answering.{HasBoth}

-- ---- an item with its row looked up
-- the item is named and is no end: a copy is made of its row
abbrev pub is_copy : State → Item → Bool
is_copy st i = some i.row && not (moves st i)

unfoldable pub item_row_of : State → Item → ItemRow
item_row_of st i = record { item = i; word = row_slot st.rows i.row; copies = if is_copy st i then 1 else 0 }

-- the item is named and its row is not in the caller's c-list
abbrev pub is_missing : State → ℕ → Item → Bool
is_missing st p i = some i.row && not_held st p i.row

unfoldable pub looked_up : State → ℕ → Item → Option ItemRow
looked_up st p i = if is_missing st p i then None else Some (item_row_of st i)

abbrev pub LooksUp : List ℕ → ℕ → ℕ → Item → Option ItemRow → Type 0
LooksUp t n p i r = (st : State) → HasRows t n st → p ≤ PROCESSES → r ≡ looked_up st p i

-- of n rows: the word is that of a slot, and the item takes one row at most
abbrev pub ItemFits : ℕ → ItemRow → Type 0
ItemFits n x = (x.word ≤ n) × (x.copies ≤ 1)

unfoldable pub LookedFits : ℕ → Option ItemRow → Type 0
LookedFits n (Some x) = ItemFits n x
LookedFits n None = Unit {0}

abbrev pub ItemsFit : ℕ → List ItemRow → Type 0
ItemsFit n xs = All (ItemFits n) xs

-- x is an item that p may name, with its row looked up
abbrev pub ItemHeld : State → ℕ → ItemRow → Type 0
ItemHeld st p x = (x ≡ item_row_of st x.item) × (is_missing st p x.item ≡ false)

abbrev pub ItemsHeld : State → ℕ → List ItemRow → Type 0
ItemsHeld st p xs = All (ItemHeld st p) xs

-- no item, with no row
abbrev pub no_item_row : ItemRow
no_item_row = record { item = record { row = 0; rights = 0 }; word = 0; copies = 0 }

-- the items without their rows; those named, in order
abbrev pub items_in : List ItemRow → List Item
items_in xs = map (λ x. x.item) xs

abbrev pub named_in : List ItemRow → List Item
named_in xs = filter (λ i. some i.row) (items_in xs)

-- ---- tests
abbrev pub TellsOpen : List ℕ → ℕ → ℕ → Bool → Type 0
TellsOpen t m c r = (st : State) → HasRequests t m st → r ≡ has_open st c

-- of one item, of all
abbrev pub LacksRight : List ℕ → ItemRow → Bool → Type 0
LacksRight t x r =
    (st : State) (p : ℕ) → Represents t st → ItemHeld st p x → r ≡ some x.item.row && lacks_right st x.item

abbrev pub AnyLacks : List ℕ → List ItemRow → Bool → Type 0
AnyLacks t xs r =
    (st : State) (p : ℕ) → Represents t st → ItemsHeld st p xs → r ≡ any (lacks_right st) (named_in xs)

abbrev pub ItemBusy : List ℕ → ℕ → ℕ → ItemRow → Bool → Type 0
ItemBusy t m c x r =
    (st : State) (p : ℕ) → HasRequests t m st → ItemHeld st p x → r ≡ some x.item.row && is_busy st c x.item

abbrev pub AnyItemBusy : List ℕ → ℕ → ℕ → List ItemRow → Bool → Type 0
AnyItemBusy t m c xs r =
    (st : State) (p : ℕ) → HasRequests t m st → ItemsHeld st p xs → r ≡ any (is_busy st c) (named_in xs)

-- the client end c stands in slot i
abbrev pub CopyDeep : List ℕ → ℕ → ItemRow → Bool → Type 0
CopyDeep t i x r =
    (st : State) (p c : ℕ) → sound st ≡ true → Represents t st → StandsAt st c i → ItemHeld st p x
    → r ≡ is_copy st x.item && too_deep (copy_depth st c x.item)

abbrev pub AnyDeep : List ℕ → ℕ → List ItemRow → Bool → Type 0
AnyDeep t i xs r =
    (st : State) (p c : ℕ) → sound st ≡ true → Represents t st → StandsAt st c i → ItemsHeld st p xs
    → r ≡ any (λ i. too_deep (copy_depth st c i)) (copies st (named_in xs))

-- how many rows the items take
unfoldable pub copies_in : List ItemRow → ℕ
copies_in [] = 0
copies_in (x ∷ xs) = x.copies + copies_in xs

-- k rows and a request: 16, 17, 18, 0 for nothing
abbrev pub RefusesRequest : ℕ → ℕ → ℕ → ℕ → ℕ → Type 0
RefusesRequest n m next k r =
    (st : State) → n ≡ length st.rows → m ≡ length st.requests → st.next ≡ next
    → r ≡ lowest (16 when rows_full st k ∷ 17 when requests_full st ∷ 18 when numbers_spent st (suc k) ∷ [])

-- slots and numbers are left; they are where nothing refuses
abbrev pub HasSpace : ℕ → ℕ → ℕ → ℕ → Type 0
HasSpace n m next k = (n + k ≤ ROWS) × (m < REQUESTS) × (next + 1 + k ≤ LAST-NEXT)

abbrev pub SpaceUnless : ℕ → ℕ → ℕ → ℕ → ℕ → Type 0
SpaceUnless r n m next k = r ≡ 0 → HasSpace n m next k

-- the request is numbered next; its port is that of the client end in its slot, which the asker holds
abbrev pub AsksOver : State → NewRequest → Type 0
AsksOver st w = HeldAt st w.asker w.port w.slot × (st.next ≡ w.number)

abbrev pub RefusesAsk : List ℕ → ℕ → ℕ → NewRequest → List ItemRow → ℕ → Type 0
RefusesAsk t n m w xs r =
    (st : State) → sound st ≡ true → HasBoth t n m st → AsksOver st w → ItemsHeld st w.asker xs
    → r ≡ lowest (refusals_ask st w.asker w.port (named_in xs))

-- ---- items lent one after the other
-- an item that is named is lent
unfoldable pub lend_named : State → ℕ → ℕ → Item → Lending → Lending
lend_named st c v i l = if some i.row then lend_item st c v i l else l

-- the rows of the state keep their slots, and are equal but for their places
abbrev pub KeepsSlots : State → Lending → Type 0
KeepsSlots st l =
    (e i : ℕ) → StandsAt st e i
    → (row_slot l.rows e ≡ suc i) × (with_place 0 (row_of l.rows e) ≡ with_place 0 (row_of st.rows e))

-- the words have come to the lending l, and the loan k says so
pub record LentTo (t : List ℕ) (k : Loan) (st : State) (l : Lending) : Type 0 where
  pub words : Represents t (with_rows l.rows st)
  pub rows : k.rows ≡ length l.rows
  pub next : k.next ≡ l.next
  pub items : k.items ≡ pad 0 ITEMS l.items
  pub count : k.count ≡ length l.items
  pub kept : KeepsSlots st l
  pub top : top_of (λ r. r.number) l.rows < l.next

-- there are slots and numbers for c rows more, and a position in the list
abbrev pub HasPlaces : Loan → ℕ → Type 0
HasPlaces k c = (k.rows + c ≤ ROWS) × (k.next + c ≤ LAST-NEXT) × (k.count < ITEMS)

-- c rows more at most, and one item more at most
abbrev pub LoanGrows : Loan → ℕ → Loan → Type 0
LoanGrows k c r = (k.rows ≤ r.rows) × (r.rows ≤ k.rows + c) × (r.next ≤ k.next + c) × (r.count ≤ k.count + 1)

-- the word of the item is that of its row
abbrev pub WordOf : State → ItemRow → Type 0
WordOf st x = row_slot st.rows x.item.row ≡ x.word

-- an end, a copy, an item of either kind or none, all items
abbrev pub LendsEnd : List ℕ → Loan → ItemRow → List ℕ → Loan → Type 0
LendsEnd t k x after r =
    (st : State) (l : Lending) → LentTo t k st l → WordOf st x → LentTo after r st (lend_end x.item l)

abbrev pub LendsCopy : List ℕ → Loan → NewRequest → ItemRow → List ℕ → Loan → Type 0
LendsCopy t k w x after r =
    (st : State) (l : Lending) → sound st ≡ true → LentTo t k st l → StandsAt st w.port w.slot → WordOf st x
    → LentTo after r st (lend_copy st w.port w.number x.item l)

abbrev pub LendsItem : List ℕ → Loan → NewRequest → ItemRow → List ℕ → Loan → Type 0
LendsItem t k w x after r =
    (st : State) (l : Lending) → sound st ≡ true → LentTo t k st l → StandsAt st w.port w.slot
    → ItemHeld st w.asker x
    → LentTo after r st (lend_named st w.port w.number x.item l)

abbrev pub LendsItems : List ℕ → Loan → NewRequest → List ItemRow → List ℕ → Loan → Type 0
LendsItems t k w xs after r =
    (st : State) (l : Lending) → sound st ≡ true → LentTo t k st l → StandsAt st w.port w.slot
    → ItemsHeld st w.asker xs
    → LentTo after r st (lend_items st w.port w.number (named_in xs) l)

-- ---- the call
abbrev pub RequestMade : List ℕ → ℕ → ℕ → NewRequest → List ItemRow → List ℕ → Type 0
RequestMade t n m w xs after =
    (st : State) → sound st ≡ true → HasBoth t n m st → AsksOver st w → ItemsHeld st w.asker xs
    → Represents after (with_request st w.asker w.port (named_in xs))

abbrev pub AsksHeld : List ℕ → ℕ → NewRequest → List ItemRow → List ℕ → Answer → Type 0
AsksHeld t n w xs after r =
    (st : State) (is : List Item) → sound st ≡ true → HasRows t n st → AsksOver st w → ItemsHeld st w.asker xs
    → named_in xs ≡ items_of is
    → Answers after r (perform st (Ask w.asker w.port is))

abbrev pub AsksItems : List ℕ → ℕ → NewRequest → List Item → List ℕ → Answer → Type 0
AsksItems t n w is after r =
    (st : State) → sound st ≡ true → HasRows t n st → AsksOver st w → w.asker ≤ PROCESSES
    → Answers after r (perform st (Ask w.asker w.port is))
