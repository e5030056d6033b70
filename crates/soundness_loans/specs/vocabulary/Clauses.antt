-- What the functions that test soundness say of one slot, of marks and of the listing: slots are given plus 1, 0 for none.
use Rattle.std.specs.Prelude.{ℕ, zero, suc, ◌+◌, ◌*◌, ◌<◌, ◌≤◌, Bool, true, false, not, ◌&&◌, ◌||◌, List, [], ◌∷◌, map, ◌≡◌, leb, ltb, eqb, get_or, set, if◌then◌else◌}
use Rattle.rows.specs.declared.Row.{Row}
use Rattle.rows.specs.declared.Request.{Request}
use Rattle.rows.specs.declared.Process.{Process}
use Rattle.rows.specs.Lists.{any, all, distinct, some, nonzero}
use Rattle.rows.specs.Codes.{is_system}
use Rattle.rows.specs.Tables.{State, row_of, is_listed, lists, goes_back}
use Rattle.rows.specs.Sound.{numbers_apart, fetched_in_range, port_stands, ports_stand, requesters_listed, items_apart, one_per_port, is_fetched, older_fetched, same, system_holds}
use Rattle.rows.specs.Layout.{request_at, row_slot}
use Rattle.rows.specs.vocabulary.Sizes.{ROWS, VIA, REQUEST}
use Rattle.rows.specs.vocabulary.Represents.{Represents}
use Rattle.rows.specs.vocabulary.OfState.{OfRows}

-- the word of a slot plus 1 in the column that starts at c
unfoldable pub word_at : List ℕ → ℕ → ℕ → ℕ
word_at t c zero = 0
word_at t c (suc i) = get_or t (c + i) 0

-- ---- numbers of rows
-- the number of the row at a slot
abbrev pub slot_number : List ℕ → ℕ → ℕ
slot_number t i = get_or t (0 + i) 0

-- s is the first of n slots, from a slot on, whose number is not below q, or n
pub record FirstNotBelow (t : List ℕ) (n from q s : ℕ) : Type 0 where
  pub past : from ≤ s
  pub within : s ≤ n
  pub below : (i : ℕ) → from ≤ i → i < s → slot_number t i < q
  pub reached : s < n → q ≤ slot_number t s

-- ---- one request
-- r is F of the rows and of the request in slot j, in every state that t represents, n rows standing
abbrev pub OfRequest : {A : Type 0} → List ℕ → ℕ → ℕ → A → (List Row → Request → A) → Type 0
OfRequest t n j r F = OfRows t n r (λ rs. F rs (request_at t j))

-- the request in slot j lists nothing
abbrev pub ListsNone : List ℕ → ℕ → Type 0
ListsNone t j = (request_at t j).items ≡ 0 ∷ 0 ∷ 0 ∷ 0 ∷ []

-- a copy for the request bears its number, is newer than it, and has its port for a second source
unfoldable pub is_copy_for : Request → Row → Bool
is_copy_for v r = some r.request && (eqb r.request v.number && (ltb v.number r.number && eqb v.port r.via))

-- an item is an end older than the request, or a copy for it
unfoldable pub may_be_lent : Request → Row → Bool
may_be_lent v r = (goes_back r && ltb r.number v.number) || is_copy_for v r

-- each of its items is such
abbrev pub items_listable : List Row → Request → Bool
items_listable rs v = all (λ e. may_be_lent v (row_of rs e)) (nonzero v.items)

unfoldable pub items_right : List Row → List Request → Bool
items_right rs vs = all (items_listable rs) vs

-- r is what F says of the request v and of the row numbered e, whose slot plus 1 is s
abbrev pub OfItem : List ℕ → Request → ℕ → ℕ → Bool → (Request → Row → Bool) → Type 0
OfItem t v e s r F = (st : State) → Represents t st → s ≡ row_slot st.rows e → r ≡ F v (row_of st.rows e)

-- the second sources of the first n rows are slots before their own, plus 1, or 0
abbrev pub ViasOlder : List ℕ → ℕ → Type 0
ViasOlder t n = (i : ℕ) → i < n → get_or t (VIA + i) 0 ≤ i

-- what is asked of each request by itself, but for its number, its port and what its items are
unfoldable pub request_right : List Process → Request → Bool
request_right ps v = leb v.fetched 1 && (is_listed ps v.asker && distinct (nonzero v.items))

-- the slot plus 1 of the client end of its port, if that stands
unfoldable pub standing_port : List Row → Request → ℕ
standing_port rs v = if port_stands rs v then row_slot rs v.port else 0

-- ---- all requests
-- the ports stand, and no two are the same
unfoldable pub ports_right : List Row → List Request → Bool
ports_right rs vs = all (port_stands rs) vs && distinct (map (λ v. v.port) vs)

-- six clauses of requests
abbrev pub all_of_requests : State → Bool
all_of_requests st =
    numbers_apart st.rows st.requests
    && (fetched_in_range st.requests
    && (ports_stand st.rows st.requests
    && (requesters_listed st.processes st.requests
    && (items_apart st.requests && one_per_port st.requests))))

-- ---- marks: a slot is free once
-- a slot plus 1 has no mark
unfoldable pub is_free : List Bool → ℕ → Bool
is_free marks zero = false
is_free marks (suc i) = not (get_or marks i false)

-- the marks with one more
unfoldable pub with_mark : List Bool → ℕ → List Bool
with_mark marks zero = marks
with_mark marks (suc i) = set marks i true

-- ---- the listing: 0 for a row that no request lists, 1 where the newest that does is fetched, 2 where it is not
-- the code of what a request lists
unfoldable pub listing_code : Bool → ℕ
listing_code fetched = if fetched then 1 else 2

-- the code of the row numbered e, by the requests newest first
unfoldable pub listing_of : List Request → ℕ → ℕ
listing_of [] e = 0
listing_of (v ∷ vs) e = if lists e v then listing_code (is_fetched v) else listing_of vs e

-- the code of a slot plus 1
unfoldable pub code_at : List ℕ → ℕ → ℕ
code_at listing zero = 0
code_at listing (suc i) = get_or listing i 0

-- a slot that is not listed yet gets the code
unfoldable pub list_at : ℕ → ℕ → List ℕ → List ℕ
list_at code zero listing = listing
list_at code (suc i) listing = if eqb (get_or listing i 0) 0 then set listing i code else listing

-- each slot of a list does
unfoldable pub list_all : ℕ → List ℕ → List ℕ → List ℕ
list_all code [] listing = listing
list_all code (s ∷ ss) listing = list_all code ss (list_at code s listing)

-- ---- the items of a request in the listing
-- no slot of a list is past the first n
abbrev pub SlotsWithin : ℕ → List ℕ → Type 0
SlotsWithin n slots = (k : ℕ) → get_or slots k 0 ≤ n

-- one of the slots is listed
abbrev pub any_listed : List ℕ → List ℕ → Bool
any_listed listing slots = any (λ s. some (code_at listing s)) slots

-- the slots of its items
abbrev pub item_slots : List Row → Request → List ℕ
item_slots rs v = map (row_slot rs) v.items

-- r is F of the rows and of the request in slot j, where `slots` are those of its items
abbrev pub OfItems : List ℕ → ℕ → List ℕ → Bool → (List Row → Request → Bool) → Type 0
OfItems t j slots r F = (st : State) → Represents t st → slots ≡ item_slots st.rows (request_at t j) → r ≡ F st.rows (request_at t j)

-- the request is fetched, or none of its items, at those slots, is listed; the listing with them listed too
abbrev pub once_in : List ℕ → List ℕ → Request → Bool
once_in listing slots v = is_fetched v || not (any_listed listing slots)

abbrev pub marked_in : List ℕ → List ℕ → Request → List ℕ
marked_in listing slots v = list_all (listing_code (is_fetched v)) slots listing

-- the same by the rows
abbrev pub listed_once : List ℕ → List Row → Request → Bool
listed_once listing rs v = once_in listing (item_slots rs v) v

abbrev pub relisted : List ℕ → List Row → Request → List ℕ
relisted listing rs v = marked_in listing (item_slots rs v) v

-- its items may be listed, and it is fetched or none of them is listed
abbrev pub listed_right : List ℕ → List Row → Request → Bool
listed_right listing rs v = items_listable rs v && listed_once listing rs v

-- ---- who holds
-- where the column of rows' places starts
abbrev PLACE : ℕ
PLACE = 5 * ROWS

-- the rows of the first slots are with the system exactly where the listing says 2, and listed where they bear a request
unfoldable pub held_to : List ℕ → List ℕ → ℕ → Bool
held_to t listing zero = true
held_to t listing (suc i) =
    (same (is_system (get_or t (PLACE + i) 0)) (eqb (get_or listing i 0) 2) && (eqb (get_or t (REQUEST + i) 0) 0 || some (get_or listing i 0)))
    && held_to t listing i

-- a row that bears a request is listed
unfoldable pub copies_seen : List Request → List Row → Bool
copies_seen vs rows = all (λ r. eqb r.request 0 || some (listing_of vs r.number)) rows

-- what items are, and who holds them
abbrev pub all_of_holders : State → Bool
all_of_holders st =
    items_right st.rows st.requests
    && (older_fetched st.requests && (system_holds st.requests st.rows && copies_seen st.requests st.rows))
