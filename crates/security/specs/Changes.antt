-- (rule P17) What an accepted call does, told row by row and request by request: what goes, what stays and where, what each list and record is after it.
use Rattle.std.specs.Prelude.{ℕ, suc, ◌+◌, ◌≤◌, Bool, false, not, ◌&&◌, ◌||◌, map, ◌≡◌, ltb, eqb, length, if◌then◌else◌}
use Rattle.rows.specs.declared.Row.{Row}
use Rattle.rows.specs.declared.Request.{Request}
use Rattle.rows.specs.declared.Process.{Process}
use Rattle.rows.specs.Lists.{any, member, some}
use Rattle.rows.specs.Codes.{is_end, in_clist, with_system, fetched_mark}
use Rattle.rows.specs.Tables.{State, row_of, request_of, open_on, process_at, numbers, comes_from, lists}
use Rattle.rows.specs.Setters.{with_place, with_items, with_fetched, in_prime_node, went_through}
use Rattle.closing.specs.Closing.{oldest_listing}
use Rattle.calls.specs.declared.Call.{Call}
use Rattle.calls.specs.declared.Call.TheVariants.{Go, Hold, Register, Drop, Port, Close, Ask, Fetch, Revoke, Comes, Chain, ComesAll}
use Rattle.calls.specs.Rules.{asked_of}
use Rattle.calls.specs.Loans.{items_of, copies}
use Rattle.security.specs.Sessions.{IsRow, IsOpen}

-- ---- what goes
-- the request that the call closes, 0 for none
unfoldable pub closed_by : State → Call → ℕ
closed_by st (Go p e) = 0
closed_by st (Hold p s) = 0
closed_by st (Register p e) = 0
closed_by st (Drop p e) = 0
closed_by st (Port p e) = 0
closed_by st (Close p c) = (open_on st.requests c).number
closed_by st (Ask p c is) = 0
closed_by st (Fetch p v) = 0
closed_by st (Call.Answer p v served) = (asked_of st v).number
closed_by st (Revoke p q) = q
closed_by st (Comes e q) = 0
closed_by st (Chain e) = 0
closed_by st (ComesAll es qs) = 0

-- a row that the call discards by itself: the row dropped, the two ends of the port closed
unfoldable pub discards : Call → Row → Bool
discards (Go p e) r = false
discards (Hold p s) r = false
discards (Register p e) r = false
discards (Drop p e) r = eqb r.number e
discards (Port p e) r = false
discards (Close p c) r = is_end r.kind && eqb r.object c
discards (Ask p c is) r = false
discards (Fetch p v) r = false
discards (Call.Answer p v served) r = false
discards (Revoke p q) r = false
discards (Comes e q) r = false
discards (Chain e) r = false
discards (ComesAll es qs) r = false

-- row n comes from the request that the call closes
unfoldable pub falls : State → Call → ℕ → Bool
falls st c n = let q = closed_by st c in some q && comes_from st.rows q n

-- row n goes
unfoldable pub goes : State → Call → ℕ → Bool
goes st c n = discards c (row_of st.rows n) || falls st c n

-- request v closes: it is the one, or its port comes from the one
unfoldable pub shuts : State → Call → Request → Bool
shuts st c v = let q = closed_by st c in some q && (eqb v.number q || comes_from st.rows q v.port)

-- ---- where the rows that stay are
-- an end that requests list which the call closes: with the asker of the oldest of them
unfoldable pub place_back : State → Call → Row → ℕ
place_back st c r = let w = oldest_listing (shuts st c) r.number st.requests in if some w.number then in_clist w.asker else r.place

unfoldable pub place_after : State → Call → Row → ℕ
place_after st (Go p e) r = r.place
place_after st (Hold p s) r = r.place
place_after st (Register p e) r = r.place
place_after st (Drop p e) r = r.place
place_after st (Port p e) r = r.place
place_after st (Close p c) r = place_back st (Close p c) r
-- an end among the items is lent: it lies with the system
place_after st (Ask p c is) r = if is_end r.kind && any (λ i. eqb i.row r.number) (items_of is) then with_system else r.place
-- what the request lists comes to the caller
place_after st (Fetch p v) r = if lists r.number (asked_of st v) then in_clist p else r.place
place_after st (Call.Answer p v served) r = place_back st (Call.Answer p v served) r
place_after st (Revoke p q) r = place_back st (Revoke p q) r
place_after st (Comes e q) r = r.place
place_after st (Chain e) r = r.place
place_after st (ComesAll es qs) r = r.place

-- ---- the requests that stay open
-- item e leaves the list of v: it goes, or an older request that closes lists it
unfoldable pub leaves_list : State → Call → Request → ℕ → Bool
leaves_list st c v e = goes st c e || any (λ w. ltb w.number v.number && (shuts st c w && lists e w)) st.requests

unfoldable pub fetched_by : State → Call → Request → Request
fetched_by st (Go p e) w = w
fetched_by st (Hold p s) w = w
fetched_by st (Register p e) w = w
fetched_by st (Drop p e) w = w
fetched_by st (Port p e) w = w
fetched_by st (Close p c) w = w
fetched_by st (Ask p c is) w = w
fetched_by st (Fetch p v) w = if eqb w.number (asked_of st v).number then with_fetched fetched_mark w else w
fetched_by st (Call.Answer p v served) w = w
fetched_by st (Revoke p q) w = w
fetched_by st (Comes e q) w = w
fetched_by st (Chain e) w = w
fetched_by st (ComesAll es qs) w = w

-- what leaves a list leaves a 0, and no other item moves
unfoldable pub request_after : State → Call → Request → Request
request_after st c v = with_items (map (λ e. if leaves_list st c v e then 0 else e) v.items) (fetched_by st c v)

-- ---- the records: a process that stood in a node through a row that goes is in its prime node
unfoldable pub record_homed : State → Call → ℕ → Process
record_homed st c p = let x = process_at st.processes p in if some x.through && goes st c x.through then in_prime_node x else x

unfoldable pub record_after : State → Call → ℕ → Process
record_after st (Go q e) p =
    let x = process_at st.processes p in
    if eqb p q then (if eqb e 0 then in_prime_node x else went_through e (row_of st.rows e).object x) else x
record_after st (Hold q s) p = process_at st.processes p
record_after st (Register q e) p = process_at st.processes p
record_after st (Drop q e) p = process_at st.processes p
record_after st (Port q e) p = process_at st.processes p
record_after st (Close q c) p = record_homed st (Close q c) p
record_after st (Ask q c is) p = process_at st.processes p
record_after st (Fetch q v) p = process_at st.processes p
record_after st (Call.Answer q v served) p = record_homed st (Call.Answer q v served) p
record_after st (Revoke q v) p = record_homed st (Revoke q v) p
record_after st (Comes e q) p = process_at st.processes p
record_after st (Chain e) p = process_at st.processes p
record_after st (ComesAll es qs) p = process_at st.processes p

-- ---- numbers: how many the call takes
unfoldable pub takes : State → Call → ℕ
takes st (Go p e) = 0
takes st (Hold p s) = 1
takes st (Register p e) = 1
takes st (Drop p e) = 0
takes st (Port p e) = 2
takes st (Close p c) = 0
takes st (Ask p c is) = suc (length (copies st (items_of is)))
takes st (Fetch p v) = 0
takes st (Call.Answer p v served) = 0
takes st (Revoke p q) = 0
takes st (Comes e q) = 0
takes st (Chain e) = 0
takes st (ComesAll es qs) = 0

-- ==== what a call touches: nothing but this
pub record Touches (st : State) (c : Call) (st' : State) : Type 0 where
  -- of the rows exactly those that go are gone; the others are unchanged, but for their place
  pub rows : (n : ℕ) → IsRow st n → member n (numbers st'.rows) ≡ not (goes st c n)
  pub rows-kept : (n : ℕ) → IsRow st n → goes st c n ≡ false → row_of st'.rows n ≡ with_place (place_after st c (row_of st.rows n)) (row_of st.rows n)
  -- of the open requests exactly those that close are closed; of the others only what leaves their lists changes, and whether they are fetched
  pub requests : (q : ℕ) → IsOpen st q → member q (map (λ v. v.number) st'.requests) ≡ not (shuts st c (request_of st.requests q))
  pub requests-kept : (q : ℕ) → IsOpen st q → shuts st c (request_of st.requests q) ≡ false → request_of st'.requests q ≡ request_after st c (request_of st.requests q)
  -- every record
  pub records : (p : ℕ) → process_at st'.processes p ≡ record_after st c p
  -- what is new has a number that was not given before, and each of the numbers that the call takes is given
  pub next : st'.next ≡ st.next + takes st c
  pub new-rows : (n : ℕ) → IsRow st' n → (IsRow st n → ⊥) → st.next ≤ n
  pub new-requests : (q : ℕ) → IsOpen st' q → (IsOpen st q → ⊥) → st.next ≤ q
