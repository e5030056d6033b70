-- Sound tables (docs/MANUAL.md, chapter 6): a named definition for each of the 27 clauses, and their conjunction in five parts.
use Rattle.std.specs.Prelude.{ℕ, suc, pred, max, Bool, true, false, not, ◌&&◌, ◌||◌, List, [], ◌∷◌, map, length, ◌==◌, nat_eq, nat_le, nat_lt, if◌then◌else◌}
use Rattle.rows.specs.declared.Row.{Row}
use Rattle.rows.specs.declared.Request.{Request}
use Rattle.rows.specs.declared.Process.{Process}
use Rattle.rows.specs.Lists.{any, all, each, top_of, rises, member, distinct, between, some, nonzero}
use Rattle.rows.specs.Limits.{processes, nodes, greatest_operation, all_rights, greatest_number, row_slots, request_slots, greatest_depth, most_items}
use Rattle.rows.specs.Codes.{is_operation, is_subdirectory, is_client, is_server, is_end, is_copied, fetched_mark, greatest_mark, in_clist, is_node, is_clist, is_system, owner_of, within}
use Rattle.rows.specs.Tables.{State, row_of, request_of, is_listed, numbers, lists, goes_back}

-- ==== numbers: of the next number, rows and requests
-- (rule S1) row numbers are above 0 and rise
unfoldable pub rows_rise : List Row → Bool
rows_rise rows = rises (λ r. r.number) rows

-- (rule S2) request numbers are above 0 and rise
unfoldable pub requests_rise : List Request → Bool
requests_rise requests = rises (λ v. v.number) requests

-- (rule S3) no request has the number of a row
unfoldable pub numbers_apart : List Row → List Request → Bool
numbers_apart rows requests = all (λ v. not (member v.number (numbers rows))) requests

-- (rule S4) every number is below the next number
unfoldable pub below_next : ℕ → List Row → List Request → Bool
below_next next rows requests = nat_lt (top_of (λ r. r.number) rows) next && nat_lt (top_of (λ v. v.number) requests) next

-- (rule S5) the next number is 1 to 4,294,967,295
unfoldable pub next_in_range : ℕ → Bool
next_in_range next = between 1 (suc greatest_number) next

-- (rule S6) at most 1,024 rows stand
unfoldable pub rows_fit : List Row → Bool
rows_fit rows = nat_le (length rows) row_slots

-- (rule S7) at most 128 requests are open
unfoldable pub requests_fit : List Request → Bool
requests_fit requests = nat_le (length requests) request_slots

-- ==== rows: of rows, requests and processes
-- (rule S9) one of the four kinds. An operation row names a listed manager and an operation of at most 255, a subdirectory row
-- a node from 1 to 32, an end its port; only an operation row has an operation other than 0
unfoldable pub object_in_range : List Process → Row → Bool
object_in_range ps r =
    (is_operation r.kind && (is_listed ps r.object && nat_le r.operation greatest_operation))
    || ((is_subdirectory r.kind && (between 1 nodes r.object && r.operation == 0))
    || ((is_client r.kind && (r.object == r.number && r.operation == 0))
    || (is_server r.kind && (suc r.object == r.number && r.operation == 0))))

unfoldable pub objects_in_range : List Process → List Row → Bool
objects_in_range ps rows = all (object_in_range ps) rows

-- (rule S10) the rights of an operation or subdirectory are at most 7, those of an end 0
unfoldable pub right_in_range : Row → Bool
right_in_range r = nat_le r.rights (if is_end r.kind then 0 else all_rights)

unfoldable pub rights_in_range : List Row → Bool
rights_in_range rows = all right_in_range rows

-- (rule S11) a place is a node from 1 to 32, given in the text or not, the c-list of a listed process, or the system
unfoldable pub place_in_range : List Process → Row → Bool
place_in_range ps r = is_node r.place || ((is_clist r.place && is_listed ps (owner_of r.place)) || is_system r.place)

unfoldable pub places_in_range : List Process → List Row → Bool
places_in_range ps rows = all (place_in_range ps) rows

-- (rule S13) the source and the second source of a row, looked up among the older rows rs: a source must stand and be older
abbrev pub source_of : List Row → Row → Row
source_of rs r = row_of rs r.source

abbrev pub via_of : List Row → Row → Row
via_of rs r = row_of rs r.via

-- (rules S13, S14, S15) a test of each row, its source and its second source
unfoldable pub sourced : (Row → Row → Row → Bool) → List Row → Bool
sourced F rows = each (λ r rs. F r (source_of rs r) (via_of rs r)) rows

-- (rule S13) each row is one of five, opening, registered, held, end or lent copy; s is its source, v its second source.
-- Of the sources no more is asked than this
unfoldable pub is_opening : Row → Bool
is_opening r = is_node r.place && (is_copied r.kind && (r.source == 0 && (r.via == 0 && r.request == 0)))

unfoldable pub is_registered : Row → Row → Bool
is_registered r s = is_node r.place && (is_copied r.kind && (is_node s.place && (r.via == 0 && r.request == 0)))

unfoldable pub is_held : Row → Row → Row → Bool
is_held r s v =
    is_clist r.place
    && (is_copied r.kind && (is_node s.place && ((r.via == 0 || is_subdirectory v.kind) && r.request == 0)))

unfoldable pub is_port_end : Row → Row → Bool
is_port_end r s = is_end r.kind && (not (is_node r.place) && (is_operation s.kind && (r.via == 0 && r.request == 0)))

-- (rule S13) its second source is the client end of the port of the open request whose number it bears
unfoldable pub is_lent_copy : List Request → Row → Row → Row → Bool
is_lent_copy vs r s v =
    some r.request
    && (not (is_node r.place)
    && (is_copied r.kind && (is_copied s.kind && (is_client v.kind && (request_of vs r.request).port == r.via))))

unfoldable pub has_right_sources : List Request → Row → Row → Row → Bool
has_right_sources vs r s v = is_opening r || (is_registered r s || (is_held r s v || (is_port_end r s || is_lent_copy vs r s v)))

abbrev pub source_right : List Request → Row → List Row → Bool
source_right vs r rs = has_right_sources vs r (source_of rs r) (via_of rs r)

unfoldable pub sources_right : List Request → List Row → Bool
sources_right vs rows = sourced (has_right_sources vs) rows

-- (rule S14) every depth is 1 plus the greatest depth of the sources, and at most 12
unfoldable pub has_right_depth : Row → Row → Row → Bool
has_right_depth r s v = r.depth == suc (max s.depth v.depth) && nat_le r.depth greatest_depth

abbrev pub depth_right : Row → List Row → Bool
depth_right r rs = has_right_depth r (source_of rs r) (via_of rs r)

unfoldable pub depths_right : List Row → Bool
depths_right rows = sourced has_right_depth rows

-- (rule S15) a held, registered or lent row has its first source's kind, object and operation, and rights within its
unfoldable pub matches_source : Row → Row → Row → Bool
matches_source r s v =
    (r.source == 0)
    || (is_end r.kind
    || (r.kind == s.kind && (r.object == s.object && (r.operation == s.operation && within r.rights s.rights))))

abbrev pub copy_matches : Row → List Row → Bool
copy_matches r rs = matches_source r (source_of rs r) (via_of rs r)

unfoldable pub copies_match : List Row → Bool
copies_match rows = sourced matches_source rows

-- (rule S17) ends stand in pairs: client n and server n + 1, of one port, with the same source
unfoldable pub is_paired_with : Row → Row → Bool
is_paired_with a b = is_end b.kind && (a.object == b.object && a.source == b.source)

-- (rule S17) the other end of a port has the number n + 1 for a client end n, n - 1 for a server end n
unfoldable pub other_end : Row → ℕ
other_end r = if is_client r.kind then suc r.number else pred r.number

unfoldable pub end_paired : List Row → Row → Bool
end_paired rs r = not (is_end r.kind) || is_paired_with r (row_of rs (other_end r))

unfoldable pub ends_paired : List Row → Bool
ends_paired rows = all (end_paired rows) rows

-- ==== loans: of rows, requests and processes
-- (rule S12) a request's mark is 0 or 1
abbrev pub mark_in_range : Request → Bool
mark_in_range v = nat_le v.fetched greatest_mark

unfoldable pub fetched_in_range : List Request → Bool
fetched_in_range requests = all mark_in_range requests

-- (rule S18) a request's port is a standing client end c, and the request is newer than both ends, c and c + 1
unfoldable pub port_stands : List Row → Request → Bool
port_stands rs v = is_client (row_of rs v.port).kind && nat_lt (suc v.port) v.number

unfoldable pub ports_stand : List Row → List Request → Bool
ports_stand rows requests = all (port_stands rows) requests

-- (rule S19) its asker is a listed process
unfoldable pub requesters_listed : List Process → List Request → Bool
requesters_listed ps requests = all (λ v. is_listed ps v.asker) requests

-- (rule S20) its list has four positions, 0 for an item that is not there
unfoldable pub items_few : List Request → Bool
items_few requests = all (λ v. nat_eq (length v.items) most_items) requests

-- (rule S21) no list has one item twice
unfoldable pub items_apart : List Request → Bool
items_apart requests = all (λ v. distinct (nonzero v.items)) requests

-- (rule S22) an item is an end older than the request, of any port, or a copy that bears its number
unfoldable pub may_be_listed : Request → Row → Bool
may_be_listed v r = (goes_back r && nat_lt r.number v.number) || (some r.request && r.request == v.number)

unfoldable pub items_lent : List Row → List Request → Bool
items_lent rows requests = all (λ v. all (λ e. may_be_listed v (row_of rows e)) (nonzero v.items)) requests

-- (rule S23) no two open requests are on one port
unfoldable pub one_per_port : List Request → Bool
one_per_port requests = distinct (map (λ v. v.port) requests)

-- (rule S24) a row that bears a request's number is newer than that request, which is open and lists the row
unfoldable pub copy_listed : List Request → Row → Bool
copy_listed vs r = r.request == 0 || (nat_lt r.request r.number && lists r.number (request_of vs r.request))

unfoldable pub copies_listed : List Request → List Row → Bool
copies_listed vs rows = all (copy_listed vs) rows

-- ==== holders: of rows and requests
-- (rule S25) every request that lists an item of a newer one is fetched
unfoldable pub is_fetched : Request → Bool
is_fetched v = v.fetched == fetched_mark

-- (rule S25) the older requests that list an item of v are fetched
unfoldable pub older_fetched_by : Request → List Request → Bool
older_fetched_by v vs = all (λ w. is_fetched w || not (any (λ e. lists e w) v.items)) vs

unfoldable pub older_fetched : List Request → Bool
older_fetched requests = each older_fetched_by requests

-- (rule S26) a row is with the system exactly if the newest request that lists it is there and not fetched
unfoldable pub awaits_fetch : List Request → ℕ → Bool
awaits_fetch [] e = false
awaits_fetch (v ∷ vs) e = if lists e v then not (is_fetched v) else awaits_fetch vs e

unfoldable pub same : Bool → Bool → Bool
same a b = (a && b) || (not a && not b)

unfoldable pub system_holds : List Request → List Row → Bool
system_holds vs rows = all (λ r. same (is_system r.place) (awaits_fetch vs r.number)) rows

-- ==== processes: of rows and processes
-- (rule S8) there are 64 process records
unfoldable pub records_fit : List Process → Bool
records_fit ps = length ps == processes

-- (rule S16) a record is all 0, or its prime and active nodes are 1 to 32
unfoldable pub record_unused : Process → Bool
record_unused x = x.prime == 0 && (x.active == 0 && x.through == 0)

unfoldable pub record_in_range : Process → Bool
record_in_range x = record_unused x || (between 1 nodes x.prime && between 1 nodes x.active)

unfoldable pub records_in_range : List Process → Bool
records_in_range ps = all record_in_range ps

-- (rule S27) a process is in its prime node through none, or in the node of a subdirectory row of its own c-list, gone through
unfoldable pub process_placed : List Row → ℕ → Process → Bool
process_placed rs p x =
    let r = row_of rs x.through in
    (x.through == 0 && x.active == x.prime)
    || (some x.through && (is_subdirectory r.kind && (r.place == in_clist p && r.object == x.active)))

unfoldable pub placed_from : List Row → ℕ → List Process → Bool
placed_from rs p [] = true
placed_from rs p (x ∷ xs) = process_placed rs p x && placed_from rs (suc p) xs

unfoldable pub processes_placed : List Row → List Process → Bool
processes_placed rows ps = placed_from rows 1 ps

-- ==== all of it
-- (rule F9) tables are sound if every clause of every part holds; a part reads the lists that it names
unfoldable pub number_clauses : ℕ → List Row → List Request → List Bool
number_clauses next rows requests =
    rows_rise rows
    ∷ requests_rise requests
    ∷ numbers_apart rows requests
    ∷ below_next next rows requests
    ∷ next_in_range next
    ∷ rows_fit rows
    ∷ requests_fit requests
    ∷ []

unfoldable pub row_clauses : List Row → List Request → List Process → List Bool
row_clauses rows requests ps =
    objects_in_range ps rows
    ∷ rights_in_range rows
    ∷ places_in_range ps rows
    ∷ sources_right requests rows
    ∷ depths_right rows
    ∷ copies_match rows
    ∷ ends_paired rows
    ∷ []

unfoldable pub loan_clauses : List Row → List Request → List Process → List Bool
loan_clauses rows requests ps =
    fetched_in_range requests
    ∷ ports_stand rows requests
    ∷ requesters_listed ps requests
    ∷ items_few requests
    ∷ items_apart requests
    ∷ items_lent rows requests
    ∷ one_per_port requests
    ∷ copies_listed requests rows
    ∷ []

unfoldable pub holder_clauses : List Row → List Request → List Bool
holder_clauses rows requests = older_fetched requests ∷ system_holds requests rows ∷ []

unfoldable pub process_clauses : List Row → List Process → List Bool
process_clauses rows ps = records_fit ps ∷ records_in_range ps ∷ processes_placed rows ps ∷ []

unfoldable pub every : List Bool → Bool
every bs = all (λ b. b) bs

unfoldable pub parts : State → List Bool
parts st =
    every (number_clauses st.next st.rows st.requests)
    ∷ every (row_clauses st.rows st.requests st.processes)
    ∷ every (loan_clauses st.rows st.requests st.processes)
    ∷ every (holder_clauses st.rows st.requests)
    ∷ every (process_clauses st.rows st.processes)
    ∷ []

unfoldable pub sound : State → Bool
sound st = every (parts st)
