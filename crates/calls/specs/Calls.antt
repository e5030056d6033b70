-- The thirteen calls on a state (docs/MANUAL.md, chapter 4). Of each the refusals 7 to 18, the lowest first; then, in one table, what each does where nothing refuses it.
use Rattle.std.specs.Prelude.{ℕ, suc, ◌+◌, Bool, not, ◌&&◌, ◌||◌, List, [], ◌∷◌, ltb, eqb, length, get_or, if◌then◌else◌}
use Rattle.rows.specs.declared.Row.{Row}
use Rattle.rows.specs.declared.Request.{Request}
use Rattle.rows.specs.Lists.{filter, any, member, some, nonzero}
use Rattle.rows.specs.Codes.{client_end, server_end, is_operation, is_subdirectory, is_client, is_server, is_end, in_node, in_clist, may_hold, may_transfer, may_register, within}
use Rattle.rows.specs.Tables.{State, row_of, request_of, process_at, sources, depth_over, comes_from, first_chain, lists, goes_back, on_loan, is_lent}
use Rattle.rows.specs.Setters.{in_prime_node, went_through}
use Rattle.rows.specs.Sound.{is_fetched}
use Rattle.closing.specs.Closing.{close_request, close_port, drop_row}
use Rattle.calls.specs.declared.Item.{Item}
use Rattle.calls.specs.declared.Four.{Four}
use Rattle.calls.specs.declared.Sixteen.{Sixteen}
use Rattle.calls.specs.declared.Call.{Call}
use Rattle.calls.specs.declared.Call.TheVariants.{Go, Hold, Register, Drop, Port, Close, Ask, Fetch, Revoke, Comes, Chain, ComesAll}
use Rattle.calls.specs.declared.Answer.{Answer}
use Rattle.calls.specs.declared.Answer.TheVariants.{Done, Made, Fetched, Told, Chained, ToldAll}
use Rattle.calls.specs.Answers.{all_of, told_no, told_yes, not_told}
use Rattle.calls.specs.Rules.{Out, Test, ◌when◌, lowest, judge, not_held, has_open, asked_of, too_deep, rows_full, requests_full, numbers_spent, with_new_rows, copy_of, with_record}
use Rattle.calls.specs.Loans.{items_of, item_row, moves, copies, copy_depth, with_request, handed_over}

-- ---- go: `go 0` has no refusal
unfoldable pub refusals_go : State → ℕ → ℕ → List Test
refusals_go st p e =
    if eqb e 0 then []
    else
    -- (rule go-7) e is not in the caller's c-list
    7 when not_held st p e
    -- (rule go-8) e is not a subdirectory
    ∷ 8 when not (is_subdirectory (row_of st.rows e).kind)
    ∷ []

-- (rule go-ok) `go 0`: the active node is the prime node, through none; else it is the node that e names, through e
unfoldable pub go_home : State → ℕ → State
go_home st p = let x = process_at st.processes p in with_record p (in_prime_node x) st

unfoldable pub go_through : State → ℕ → ℕ → State
go_through st p e =
    let x = process_at st.processes p in
    with_record p (went_through e (row_of st.rows e).object x) st

-- ---- hold
-- (rules R7, R11) one deeper than the deeper of s and the row gone through
abbrev pub held_depth : State → ℕ → ℕ → ℕ
held_depth st p s = depth_over st.rows s (process_at st.processes p).through

unfoldable pub refusals_hold : State → ℕ → ℕ → List Test
refusals_hold st p s =
    let r = row_of st.rows s in
    let x = process_at st.processes p in
    -- (rule hold-7) s is not a row of the caller's active node
    7 when not (eqb r.place (in_node x.active))
    -- (rule hold-9) s has not the right hold
    ∷ 9 when not (may_hold r.rights)
    -- (rule hold-12) s is a subdirectory, and the row that the caller went through is lent
    ∷ 12 when (is_subdirectory r.kind && (some x.through && is_lent st x.through))
    -- (rule hold-15) the new row would have depth 13
    ∷ 15 when too_deep (held_depth st p s)
    -- (rule hold-16) no row is free
    ∷ 16 when rows_full st 1
    -- (rule hold-18) no number is left
    ∷ 18 when numbers_spent st 1
    ∷ []

-- (rules R7, hold-ok) a copy of s with its rights, in the caller's c-list; its sources are s and the row gone through, if there is one
unfoldable pub with_held : State → ℕ → ℕ → State
with_held st p s =
    let r = row_of st.rows s in
    let via = (process_at st.processes p).through in
    with_new_rows (copy_of r st.next r.rights (in_clist p) s via (held_depth st p s) 0 ∷ st.rows) (suc st.next) st

-- ---- register
-- (rules R8, R11) one deeper than the first source of e
abbrev pub registered_depth : State → ℕ → ℕ
registered_depth st e = depth_over st.rows (row_of st.rows e).source 0

unfoldable pub refusals_register : State → ℕ → ℕ → List Test
refusals_register st p e =
    let r = row_of st.rows e in
    -- (rule register-7) e is not in the caller's c-list
    7 when not_held st p e
    -- (rule register-8) e is an end
    ∷ 8 when is_end r.kind
    -- (rule register-9) e has not the right register
    ∷ 9 when not (may_register r.rights)
    -- (rule register-12) e is lent
    ∷ 12 when is_lent st e
    -- (rule register-15) the new row would have depth 13
    ∷ 15 when too_deep (registered_depth st e)
    -- (rule register-16) no row is free
    ∷ 16 when rows_full st 1
    -- (rule register-18) no number is left
    ∷ 18 when numbers_spent st 1
    ∷ []

-- (rules R8, register-ok) a copy of e with its rights, in the caller's active node; its one source is the first source of e
unfoldable pub with_registered : State → ℕ → ℕ → State
with_registered st p e =
    let r = row_of st.rows e in
    let x = process_at st.processes p in
    with_new_rows (copy_of r st.next r.rights (in_node x.active) r.source 0 (registered_depth st e) 0 ∷ st.rows) (suc st.next) st

-- ---- drop
-- (rules drop-13a, drop-13b) e is a source of some row, or the row that the caller went through
unfoldable pub in_use : State → ℕ → ℕ → Bool
in_use st p e = any (λ r. member e (sources r)) st.rows || eqb (process_at st.processes p).through e

unfoldable pub refusals_drop : State → ℕ → ℕ → List Test
refusals_drop st p e =
    -- (rule drop-7) e is not in the caller's c-list
    7 when not_held st p e
    -- (rule drop-8) e is an end
    ∷ 8 when is_end (row_of st.rows e).kind
    -- (rules drop-13a, drop-13b) e is a source of some row, or the caller is in its active node through e
    ∷ 13 when in_use st p e
    ∷ []

-- ---- port
-- (rules R9, R11) one deeper than the operation row
abbrev pub port_depth : State → ℕ → ℕ
port_depth st e = depth_over st.rows e 0

unfoldable pub refusals_port : State → ℕ → ℕ → List Test
refusals_port st p e =
    -- (rule port-7) e is not in the caller's c-list
    7 when not_held st p e
    -- (rule port-8) e is not an operation
    ∷ 8 when not (is_operation (row_of st.rows e).kind)
    -- (rule port-15) the ends would have depth 13
    ∷ 15 when too_deep (port_depth st e)
    -- (rule port-16) fewer than two rows are free
    ∷ 16 when rows_full st 2
    -- (rule port-18) fewer than two numbers are left
    ∷ 18 when numbers_spent st 2
    ∷ []

-- (rules L1, R9, port-ok) two ends with source e: client end c with the caller, server end c + 1 with the manager that e names
unfoldable pub port_end : ℕ → ℕ → ℕ → ℕ → ℕ → ℕ → Row
port_end kind n c place e d =
    record { number = n; kind = kind; object = c; operation = 0; rights = 0; place = place; source = e; via = 0; depth = d; request = 0 }

unfoldable pub with_port : State → ℕ → ℕ → State
with_port st p e =
    let c = st.next in
    let d = port_depth st e in
    let client = port_end client_end c c (in_clist p) e d in
    let server = port_end server_end (suc c) c (in_clist (row_of st.rows e).object) e d in
    with_new_rows (server ∷ client ∷ st.rows) (suc (suc c)) st

-- ---- close
unfoldable pub refusals_close : State → ℕ → ℕ → List Test
refusals_close st p c =
    -- (rule close-7) c is not in the caller's c-list
    7 when not_held st p c
    -- (rule close-8) c is not a client end
    ∷ 8 when not (is_client (row_of st.rows c).kind)
    -- (rule close-12) c is on loan
    ∷ 12 when on_loan st.requests c
    ∷ []

-- ---- ask
-- (rules ask-9a, ask-9b, L13) a copied item lacks transfer, or the rights lent are not within its row's; an end has rights 0 and needs no right
unfoldable pub lacks_right : State → Item → Bool
lacks_right st i =
    let r = item_row st i in
    (not (moves st i) && not (may_transfer r.rights)) || not (within i.rights r.rights)

-- (rules ask-10b, ask-10c) an end of the port c, or of a port with an open request
unfoldable pub is_busy : State → ℕ → Item → Bool
is_busy st c i = let port = (item_row st i).object in moves st i && (eqb port c || has_open st port)

-- (rule F10) each over the port and all items together
unfoldable pub refusals_ask : State → ℕ → ℕ → List Item → List Test
refusals_ask st p c is =
    let k = length (copies st is) in
    -- (rules ask-7a, ask-7b) c or an item is not in the caller's c-list
    7 when (not_held st p c || any (λ i. not_held st p i.row) is)
    -- (rule ask-8) c is not a client end
    ∷ 8 when not (is_client (row_of st.rows c).kind)
    -- (rules ask-9a, ask-9b) an item lacks a right
    ∷ 9 when any (lacks_right st) is
    -- (rules ask-10a, ask-10b, ask-10c) the port c has an open request, or an item is an end that is busy
    ∷ 10 when (has_open st c || any (is_busy st c) is)
    -- (rule ask-15) a copy would have depth 13
    ∷ 15 when any (λ i. too_deep (copy_depth st c i)) (copies st is)
    -- (rule ask-16) fewer rows are free than copies to make
    ∷ 16 when rows_full st k
    -- (rule ask-17) 128 requests are open
    ∷ 17 when requests_full st
    -- (rule ask-18) fewer numbers are left than 1 and one for each copy
    ∷ 18 when numbers_spent st (suc k)
    ∷ []

-- ---- fetch
unfoldable pub refusals_fetch : State → ℕ → ℕ → List Test
refusals_fetch st p e =
    let v = asked_of st e in
    -- (rule fetch-7) e is not in the caller's c-list
    7 when not_held st p e
    -- (rule fetch-8) e is not a server end
    ∷ 8 when not (is_server (row_of st.rows e).kind)
    -- (rules fetch-11a, fetch-11b) no request is open on the port, or it is fetched already
    ∷ 11 when (eqb v.number 0 || is_fetched v)
    ∷ []

-- ---- answer
-- (rules answer-10, answer-14a, answer-14b) the ends that a request still lists: they go back when it closes
unfoldable pub lent_ends : State → Request → List ℕ
lent_ends st v = filter (λ e. goes_back (row_of st.rows e)) (nonzero v.items)

-- (rules answer-14a, answer-14b) not in the caller's c-list, or listed by a newer request
unfoldable pub is_away : State → ℕ → Request → ℕ → Bool
is_away st p v e = not_held st p e || any (λ w. ltb v.number w.number && lists e w) st.requests

-- served: the last number is 1
unfoldable pub refusals_answer : State → ℕ → ℕ → Bool → List Test
refusals_answer st p e served =
    let v = asked_of st e in
    -- (rule answer-7) e is not in the caller's c-list
    7 when not_held st p e
    -- (rule answer-8) e is not a server end
    ∷ 8 when not (is_server (row_of st.rows e).kind)
    -- (rule answer-10) with 1: an end that the request still lists is of a port with an open request
    ∷ 10 when (served && any (λ x. has_open st (row_of st.rows x).object) (lent_ends st v))
    -- (rules answer-11a, answer-11b) no request is open on the port, or with 1 it is not fetched
    ∷ 11 when (eqb v.number 0 || (served && not (is_fetched v)))
    -- (rules answer-14a, answer-14b) with 1: an end that the request still lists is not in the caller's c-list, or a newer request lists it
    ∷ 14 when (served && any (is_away st p v) (lent_ends st v))
    ∷ []

-- ---- revoke
unfoldable pub refusals_revoke : State → ℕ → ℕ → List Test
refusals_revoke st p q =
    let v = request_of st.requests q in
    -- (rules revoke-7a, revoke-7b) q is not an open request, or the caller did not ask it
    7 when (eqb v.number 0 || not (eqb v.asker p))
    ∷ []

-- ---- comes
unfoldable pub refusals_comes : State → ℕ → ℕ → List Test
refusals_comes st e q =
    -- (rules comes-7a, comes-7b) no row e stands, or no request q is open
    7 when (eqb (row_of st.rows e).number 0 || eqb (request_of st.requests q).number 0)
    ∷ []

-- ---- chain
unfoldable pub refusals_chain : State → ℕ → List Test
refusals_chain st e =
    -- (rule chain-7) no row e stands
    7 when eqb (row_of st.rows e).number 0
    ∷ []

-- ---- comesall: no test of the state refuses it
-- (rules comesall-ok-1, comesall-ok-2) what is told of row e and request q: what comes answers of them, as a code; 0 where there is no pair
unfoldable pub told : State → ℕ → ℕ → ℕ
told st e q =
    if eqb e 0 then 0
    else if eqb (lowest (refusals_comes st e q)) 0 then (if comes_from st.rows q e then told_yes else told_no)
    else not_told

-- (rule comesall-ok-1) of each pair, in the order of the pairs
unfoldable pub told_each : State → List ℕ → List ℕ → List ℕ
told_each st [] qs = []
told_each st (e ∷ es) [] = []
told_each st (e ∷ es) (q ∷ qs) = told st e q ∷ told_each st es qs

-- ---- all thirteen
-- (rule F8) the tests of a call, lowest number first
unfoldable pub refusals : State → Call → List Test
refusals st (Go p e) = refusals_go st p e
refusals st (Hold p s) = refusals_hold st p s
refusals st (Register p e) = refusals_register st p e
refusals st (Drop p e) = refusals_drop st p e
refusals st (Port p e) = refusals_port st p e
refusals st (Close p c) = refusals_close st p c
refusals st (Ask p c is) = refusals_ask st p c (items_of is)
refusals st (Fetch p e) = refusals_fetch st p e
refusals st (Call.Answer p e served) = refusals_answer st p e served
refusals st (Revoke p q) = refusals_revoke st p q
refusals st (Comes e q) = refusals_comes st e q
refusals st (Chain e) = refusals_chain st e
refusals st (ComesAll es qs) = []

-- (rule K4) no new number; a new number; what was fetched; the rows of a chain; what is told of pairs
unfoldable pub done : State → Out
done st = record { answer = Done; after = st }

unfoldable pub made : ℕ → State → Out
made n st = record { answer = Made n; after = st }

unfoldable pub fetched_answer : Request → Answer
fetched_answer v = Fetched v.number v.items

unfoldable pub four_from : List ℕ → ℕ → Four
four_from ns i = record { first = get_or ns i 0; second = get_or ns (i + 1) 0; third = get_or ns (i + 2) 0; fourth = get_or ns (i + 3) 0 }

unfoldable pub chained_answer : List ℕ → Answer
chained_answer ns = Chained (four_from ns 0) (four_from ns 4) (four_from ns 8)

unfoldable pub sixteen_from : List ℕ → Sixteen
sixteen_from ns = record { first = four_from ns 0; second = four_from ns 4; third = four_from ns 8; fourth = four_from ns 12 }

-- (rules go-ok, hold-ok, register-ok, drop-ok, port-ok, close-ok, ask-ok-4, fetch-ok, answer-ok, revoke-ok, comes-ok, chain-ok, comesall-ok-3)
-- what each answers and does where no test holds
unfoldable pub effect : State → Call → Out
effect st (Go p e) = done (if eqb e 0 then go_home st p else go_through st p e)
effect st (Hold p s) = made st.next (with_held st p s)
effect st (Register p e) = made st.next (with_registered st p e)
effect st (Drop p e) = done (drop_row e st)
effect st (Port p e) = made st.next (with_port st p e)
effect st (Close p c) = done (close_port c st)
effect st (Ask p c is) = made st.next (with_request st p c (items_of is))
effect st (Fetch p e) = let v = asked_of st e in record { answer = fetched_answer v; after = handed_over p v st }
effect st (Call.Answer p e served) = done (close_request (asked_of st e).number st)
effect st (Revoke p q) = done (close_request q st)
effect st (Comes e q) = record { answer = Told (comes_from st.rows q e); after = st }
effect st (Chain e) = record { answer = chained_answer (first_chain st.rows e); after = st }
effect st (ComesAll es qs) = record { answer = ToldAll (sixteen_from (told_each st (all_of es) (all_of qs))); after = st }

-- (rules K5, F8) refused by the lowest number that applies, else carried out
unfoldable pub perform : State → Call → Out
perform st c = judge st (refusals st c) (effect st c)

-- (rule F2) the caller's number; comes, chain and comesall have none
unfoldable pub caller_of : Call → ℕ
caller_of (Go p e) = p
caller_of (Hold p s) = p
caller_of (Register p e) = p
caller_of (Drop p e) = p
caller_of (Port p e) = p
caller_of (Close p c) = p
caller_of (Ask p c is) = p
caller_of (Fetch p e) = p
caller_of (Call.Answer p e served) = p
caller_of (Revoke p q) = p
caller_of (Comes e q) = 0
caller_of (Chain e) = 0
caller_of (ComesAll es qs) = 0
