-- What the tests of answer say: of the ends that a request still lists.
use Rattle.std.specs.Prelude.{ℕ, ◌≤◌, Bool, true, ◌&&◌, List, ◌≡◌, ltb, length, if◌then◌else◌}
use Rattle.rows.specs.declared.Request.{Request}
use Rattle.std.specs.Prelude.{Option}
use Rattle.std.specs.Prelude.{None}
use Rattle.rows.specs.Lists.{any, member, some}
use Rattle.rows.specs.Codes.{is_end}
use Rattle.rows.specs.Tables.{State, row_of, lists}
use Rattle.rows.specs.Sound.{sound}
use Rattle.rows.specs.vocabulary.Represents.{Represents}
use Rattle.rows.specs.Layout.{row_slot, records_in}
use Rattle.rows.specs.vocabulary.Slots.{found_slot}
use Rattle.rows.specs.vocabulary.Sizes.{PROCESSES}
use Rattle.calls.specs.declared.Answer.{Answer}
use Rattle.calls.specs.declared.Call.{Call}
use Rattle.calls.specs.Rules.{lowest, has_open}
use Rattle.calls.specs.Calls.{lent_ends, is_away, refusals_answer, perform}
use Rattle.calls.specs.vocabulary.Lookups.{HasRows}
use Rattle.calls.specs.vocabulary.Performs.{Agrees, HeldAt, Serves}

-- the words represent the state, which has n rows and m requests
abbrev pub HasBoth : List ℕ → ℕ → ℕ → State → Type 0
HasBoth t n m st = Represents t st × (n ≡ length st.rows) × (m ≡ length st.requests)

-- the slot of the row e where it is an end, as a look-up answers it
unfoldable pub end_slot : State → ℕ → Option ℕ
end_slot st e = if is_end (row_of st.rows e).kind then found_slot (row_slot st.rows e) else None

abbrev pub FindsEnd : List ℕ → ℕ → ℕ → Option ℕ → Type 0
FindsEnd t n e r = (st : State) → HasRows t n st → r ≡ end_slot st e

-- e is an item that is an end
abbrev pub end_item : State → ℕ → Bool
end_item st e = some e && is_end (row_of st.rows e).kind

abbrev pub EndBusy : List ℕ → ℕ → ℕ → ℕ → Bool → Type 0
EndBusy t n m e r = (st : State) → HasBoth t n m st → r ≡ end_item st e && has_open st (row_of st.rows e).object

-- a request is newer than q and has e among its items
abbrev pub newer_listing : ℕ → ℕ → Request → Bool
newer_listing q e w = ltb q w.number && member e w.items

-- a request newer than q lists e
abbrev pub listed_newer : State → ℕ → ℕ → Bool
listed_newer st q e = any (λ w. ltb q w.number && lists e w) st.requests

abbrev pub ListedNewer : List ℕ → ℕ → ℕ → ℕ → Bool → Type 0
ListedNewer t m q e r =
    (st : State) → Represents t st → m ≡ length st.requests → some e ≡ true → r ≡ listed_newer st q e

abbrev pub EndAway : List ℕ → ℕ → ℕ → ℕ → ℕ → ℕ → Bool → Type 0
EndAway t n m q p e r =
    (st : State) (v : Request) → HasBoth t n m st → p ≤ PROCESSES → v.number ≡ q → r ≡ end_item st e && is_away st p v e

-- one of the ends that v lists has a busy port; is away
abbrev pub AnyBusy : List ℕ → ℕ → ℕ → Request → Bool → Type 0
AnyBusy t n m v r =
    (st : State) → HasBoth t n m st → r ≡ any (λ x. has_open st (row_of st.rows x).object) (lent_ends st v)

abbrev pub AnyAway : List ℕ → ℕ → ℕ → Request → ℕ → Bool → Type 0
AnyAway t n m v p r = (st : State) → HasBoth t n m st → p ≤ PROCESSES → r ≡ any (is_away st p v) (lent_ends st v)

-- the server end e is held by p, the request open on its port stands in slot j
abbrev pub RefusesAnswer : List ℕ → ℕ → ℕ → ℕ → ℕ → Bool → ℕ → Type 0
RefusesAnswer t n m j p served r =
    (st : State) (e : ℕ) → HasBoth t n m st → Serves st p e j → p ≤ PROCESSES
    → r ≡ lowest (refusals_answer st p e served)

abbrev pub AnswersEnd : List ℕ → ℕ → List ℕ → ℕ → ℕ → Bool → List ℕ → List ℕ → Answer → Type 0
AnswersEnd t n ps i p served after left r =
    (st : State) (e : ℕ) → sound st ≡ true → Represents t st → n ≡ length st.rows → st.processes ≡ records_in ps
    → HeldAt st p e i → p ≤ PROCESSES → Agrees after (records_in left) r (perform st (Call.Answer p e served))
