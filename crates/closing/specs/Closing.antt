-- Closing (docs/MANUAL.md, chapter 5): what is removed, which requests close with it, where surviving ends go. A function of its seeds.
use Rattle.std.specs.Prelude.{ℕ, Bool, not, ◌&&◌, ◌||◌, List, [], ◌∷◌, map, eqb, if◌then◌else◌}
use Rattle.rows.specs.declared.Row.{Row}
use Rattle.rows.specs.declared.Request.{Request}
use Rattle.rows.specs.declared.Process.{Process}
use Rattle.rows.specs.Lists.{filter, any, member, some}
use Rattle.rows.specs.Codes.{is_end, in_clist}
use Rattle.rows.specs.Tables.{State, no_request, marked, bears, lists}
use Rattle.rows.specs.Setters.{with_rows, with_requests, with_processes, with_place, with_items, in_prime_node}

-- (rules C3, L12) a request closes: it is one of qs, or its port, named by its client end, is among the removed rows g
unfoldable pub closes : List ℕ → List ℕ → Request → Bool
closes qs g v = member v.number qs || member v.port g

-- (rule C5) the oldest of the requests, newest first, that pass the test and list e
unfoldable pub oldest_listing : (Request → Bool) → ℕ → List Request → Request
oldest_listing f e [] = no_request
oldest_listing f e (v ∷ vs) =
    let w = oldest_listing f e vs in
    if some w.number then w else (if f v && lists e v then v else w)

-- (rule C5) an end that is not removed, listed by requests that close, goes to the c-list of the asker of the oldest of them
unfoldable pub returned : (Request → Bool) → List Request → Row → Row
returned f vs r =
    let w = oldest_listing f r.number vs in
    if some w.number then with_place (in_clist w.asker) r else r

-- (rule C6) one of the requests vs that close lists e
unfoldable pub listed_in : (Request → Bool) → List Request → ℕ → Bool
listed_in f vs e = any (λ w. f w && lists e w) vs

-- (rules C4, C6, L5) an item leaves the list of a request that stays open if it is removed, or if an older request, of vs, that
-- closes lists it; it leaves a 0
unfoldable pub leaves : (Request → Bool) → List ℕ → List Request → ℕ → Bool
leaves f g vs e = member e g || listed_in f vs e

unfoldable pub trimmed : (Request → Bool) → List ℕ → List Request → Request → Request
trimmed f g vs v = with_items (map (λ e. if leaves f g vs e then 0 else e) v.items) v

-- (rule C10) the requests that stay open, on an end that went back too
unfoldable pub remaining : (Request → Bool) → List ℕ → List Request → List Request
remaining f g [] = []
remaining f g (v ∷ vs) = if f v then remaining f g vs else trimmed f g vs v ∷ remaining f g vs

-- (rule C8) a process that went to its active node through a removed row is in its prime node, through none
unfoldable pub homed : List ℕ → Process → Process
homed g x = if some x.through && member x.through g then in_prime_node x else x

-- (rules C7, C9) the state after the rows g are removed and the requests that pass the test are closed; lists count as they stand in st
unfoldable pub settled : List ℕ → (Request → Bool) → State → State
settled g f st =
    with_rows (map (returned f st.requests) (filter (λ r. not (member r.number g)) st.rows))
    (with_requests (remaining f g st.requests) (with_processes (map (homed g) st.processes) st))

-- (rules C3, P11) in one pass: the seeds and all that comes from them are removed; qs close, and the requests whose port is removed
unfoldable pub closing : (Row → Bool) → List ℕ → State → State
closing seed qs st = let g = marked seed st.rows in settled g (closes qs g) st

-- (rules C1, C11) closing a request removes every row that comes from it, and no other
unfoldable pub close_request : ℕ → State → State
close_request q st = closing (bears q) (q ∷ []) st

-- (rule C2) closing a port removes both its ends and all that has them among its sources
unfoldable pub is_end_of : ℕ → Row → Bool
is_end_of c r = is_end r.kind && eqb r.object c

unfoldable pub close_port : ℕ → State → State
close_port c st = closing (is_end_of c) [] st

-- (rule drop-ok) a dropped row
unfoldable pub is_row : ℕ → Row → Bool
is_row e r = eqb r.number e

unfoldable pub drop_row : ℕ → State → State
drop_row e st = closing (is_row e) [] st
