-- (rule P15) Authority moves only by the rules: how a row comes to be where it is, and that of a row only the place ever changes.
-- Ruled out: a kernel whose `port` gives the server end to the caller; whose `fetch` hands over a request of another port;
-- whose closing gives an end to the asker of the newest loan; that puts a row into a c-list by any other call.
use Rattle.std.specs.Prelude.{ℕ, suc, ◌<◌, ◌≤◌, true, false, ◌&&◌, List, ◌≡◌, ◌⊎◌, eqb}
use Rattle.rows.specs.declared.Row.{Row}
use Rattle.rows.specs.Lists.{any, some}
use Rattle.rows.specs.Codes.{is_operation, is_server, is_end, in_node, in_clist, with_system, may_hold, may_transfer, may_register, within}
use Rattle.rows.specs.Tables.{State, row_of, request_of, process_at, lists, is_lent}
use Rattle.rows.specs.Setters.{with_place}
use Rattle.calls.specs.declared.Item.{Item}
use Rattle.calls.specs.declared.Call.{Call}
use Rattle.calls.specs.declared.Call.TheVariants.{Hold, Register, Port, Ask, Fetch}
use Rattle.calls.specs.Rules.{asked_of}
use Rattle.calls.specs.Loans.{items_of}
use Rattle.security.specs.Sessions.{IsRow, IsOpen, Has}
use Rattle.security.specs.Changes.{shuts}

-- ---- new rows. Each record is of a state st, a call of p, and the row r, numbered n, after the call
-- r is what s is, with the same rights or fewer
pub record IsCopyOf (r s : Row) : Type 0 where
  pub kind : r.kind ≡ s.kind
  pub object : r.object ≡ s.object
  pub operation : r.operation ≡ s.operation
  pub rights : within r.rights s.rights ≡ true

-- `hold s`: a copy of a row of the caller's active node that has the right hold, with its rights
pub record ByHold (st : State) (p s n : ℕ) (r : Row) : Type 0 where
  pub number : n ≡ st.next
  pub place : r.place ≡ in_clist p
  pub node : (row_of st.rows s).place ≡ in_node (process_at st.processes p).active
  pub right : may_hold (row_of st.rows s).rights ≡ true
  pub source : r.source ≡ s
  pub copy : IsCopyOf r (row_of st.rows s)
  pub rights : r.rights ≡ (row_of st.rows s).rights

-- `register e`: a copy, into the caller's active node, of a row of the caller's that is not lent and has the right register
pub record ByRegister (st : State) (p e n : ℕ) (r : Row) : Type 0 where
  pub number : n ≡ st.next
  pub place : r.place ≡ in_node (process_at st.processes p).active
  pub has : Has st p e
  pub right : may_register (row_of st.rows e).rights ≡ true
  pub unlent : is_lent st e ≡ false
  pub source : r.source ≡ (row_of st.rows e).source
  pub copy : IsCopyOf r (row_of st.rows e)
  pub rights : r.rights ≡ (row_of st.rows e).rights

-- `port e`, e an operation row of the caller's: the client end is the caller's, the server end the manager's
pub record ByPort (st : State) (p e : ℕ) (r : Row) : Type 0 where
  pub has : Has st p e
  pub operation : is_operation (row_of st.rows e).kind ≡ true
  pub source : r.source ≡ e
  pub port : r.object ≡ st.next

-- `ask c .. (e r) ..`, e a row of the caller's with the right transfer: a copy, with the rights r, which lies with the system
pub record ByLending (st : State) (p c n : ℕ) (is : List Item) (r : Row) : Type 0 where
  pub item : Item
  pub named : any (λ j. eqb j.row item.row && eqb j.rights item.rights) is ≡ true
  pub has : Has st p item.row
  pub over : Has st p c
  pub right : may_transfer (row_of st.rows item.row).rights ≡ true
  pub place : r.place ≡ with_system
  pub source : r.source ≡ item.row
  pub port : r.via ≡ c
  pub bears : r.request ≡ st.next
  pub copy : IsCopyOf r (row_of st.rows item.row)
  pub rights : r.rights ≡ item.rights
  pub number : st.next < n

-- ---- rows that move
-- `ask`: an end that the items name, the caller's, goes to the system
pub record LentAway (st : State) (p n : ℕ) (is : List Item) (r : Row) : Type 0 where
  pub is-end : is_end (row_of st.rows n).kind ≡ true
  pub named : any (λ i. eqb i.row n) is ≡ true
  pub has : Has st p n
  pub place : r.place ≡ with_system

-- `fetch v`, v a server end of the caller's: what the request open on its port lists comes from the system to the caller
pub record ByFetch (st : State) (p v n : ℕ) (r : Row) : Type 0 where
  pub has : Has st p v
  pub server : is_server (row_of st.rows v).kind ≡ true
  pub listed : lists n (asked_of st v) ≡ true
  pub from : (row_of st.rows n).place ≡ with_system
  pub place : r.place ≡ in_clist p

-- a closing: an end that requests list which the call closes goes to the asker of the oldest of them
pub record ByClosing (st : State) (c : Call) (n : ℕ) (r : Row) : Type 0 where
  pub request : ℕ
  pub is-end : is_end (row_of st.rows n).kind ≡ true
  pub is_open : IsOpen st request
  pub shut : shuts st c (request_of st.requests request) ≡ true
  pub listed : lists n (request_of st.requests request) ≡ true
  pub oldest : (q : ℕ) → IsOpen st q → shuts st c (request_of st.requests q) ≡ true → lists n (request_of st.requests q) ≡ true → request ≤ q
  pub place : r.place ≡ in_clist (request_of st.requests request).asker

-- ---- the ways in which a row, numbered n, r after the call, comes to be where it was not
pub data Arrives (st : State) (n : ℕ) (r : Row) : Call → Type 0 where
  held : (p s : ℕ) → ByHold st p s n r → Arrives st n r (Hold p s)
  registered : (p e : ℕ) → ByRegister st p e n r → Arrives st n r (Register p e)
  client : (p e : ℕ) → n ≡ st.next → r.place ≡ in_clist p → ByPort st p e r → Arrives st n r (Port p e)
  server : (p e : ℕ) → n ≡ suc st.next → r.place ≡ in_clist (row_of st.rows e).object → ByPort st p e r → Arrives st n r (Port p e)
  copied : (p c : ℕ) (is : List Item) → ByLending st p c n (items_of is) r → Arrives st n r (Ask p c is)
  lent : (p c : ℕ) (is : List Item) → LentAway st p n (items_of is) r → Arrives st n r (Ask p c is)
  fetched : (p v : ℕ) → ByFetch st p v n r → Arrives st n r (Fetch p v)
  returned : (c : Call) → ByClosing st c n r → Arrives st n r c

-- ==== authority moves only by the rules
pub record Moves (st : State) (c : Call) (st' : State) : Type 0 where
  -- a row is as it was, or came to its place in one of these ways
  pub arrives : (n : ℕ) → IsRow st' n → (IsRow st n × (row_of st'.rows n ≡ row_of st.rows n)) ⊎ Arrives st n (row_of st'.rows n) c
  -- of a row only the place changes
  pub only-place : (n : ℕ) → IsRow st n → IsRow st' n → row_of st'.rows n ≡ with_place (row_of st'.rows n).place (row_of st.rows n)
  -- and that only of ends, and of copies that lie with the system
  pub only-these : (n : ℕ) → IsRow st n → IsRow st' n → ((row_of st'.rows n).place ≡ (row_of st.rows n).place → ⊥)
      → (is_end (row_of st.rows n).kind ≡ true) ⊎ ((some (row_of st.rows n).request ≡ true) × ((row_of st.rows n).place ≡ with_system))
