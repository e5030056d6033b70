-- ask: the request, the copies made and the ends moved; fetch: the privileges handed over.
use Rattle.std.specs.Prelude.{ℕ, suc, Bool, not, List, [], ◌∷◌, ◌++◌, map, eqb, if◌then◌else◌}
use Rattle.rows.specs.declared.Row.{Row}
use Rattle.rows.specs.declared.Request.{Request}
use Rattle.rows.specs.Lists.{filter, some, pad}
use Rattle.rows.specs.Limits.{most_items}
use Rattle.rows.specs.Codes.{waiting_mark, fetched_mark, in_clist, with_system}
use Rattle.rows.specs.Tables.{State, row_of, depth_over, lists, goes_back}
use Rattle.rows.specs.Setters.{with_rows, with_requests, with_next, with_place, with_fetched}
use Rattle.calls.specs.declared.Item.{Item}
use Rattle.calls.specs.Rules.{copy_of}

-- (rule F2) the items named, in order
unfoldable pub items_of : List Item → List Item
items_of is = filter (λ i. some i.row) is

unfoldable pub item_row : State → Item → Row
item_row st i = row_of st.rows i.row

-- (rules ask-ok-2, ask-ok-3) an end moves, an operation or subdirectory is copied
unfoldable pub moves : State → Item → Bool
moves st i = goes_back (item_row st i)

unfoldable pub copies : State → List Item → List Item
copies st is = filter (λ i. not (moves st i)) is

-- (rules R10, R11) a lent copy has the sources lender's row and client end of the port that it was lent over
unfoldable pub copy_depth : State → ℕ → Item → ℕ
copy_depth st c i = depth_over st.rows i.row c

-- (rules R10, ask-ok-2) the copy numbered n, with the rights lent, which bears request v, over port c
unfoldable pub copy_lent : State → ℕ → ℕ → ℕ → Item → Row
copy_lent st c v n i = copy_of (item_row st i) n i.rights with_system i.row c (copy_depth st c i) v

-- (rule ask-ok-1) the rows, the list and the next number as the items are lent one after the other
pub record Lending : Type 0 where
  pub rows : List Row
  pub items : List ℕ
  pub next : ℕ

-- (rules L6, ask-ok-3) an end moves to the system, where it lies until it is fetched
unfoldable pub to_system : ℕ → Row → Row
to_system e r = if eqb r.number e then with_place with_system r else r

unfoldable pub lend_end : Item → Lending → Lending
lend_end i l = record { rows = map (to_system i.row) l.rows; items = l.items ++ (i.row ∷ []); next = l.next }

-- (rules L6, ask-ok-2) a copy is made with the system; the lender's row stays
unfoldable pub lend_copy : State → ℕ → ℕ → Item → Lending → Lending
lend_copy st c v i l = record { rows = copy_lent st c v l.next i ∷ l.rows; items = l.items ++ (l.next ∷ []); next = suc l.next }

-- (rule ask-ok-4) the list has copies and ends in the order of the items
unfoldable pub lend_item : State → ℕ → ℕ → Item → Lending → Lending
lend_item st c v i l = if moves st i then lend_end i l else lend_copy st c v i l

unfoldable pub lend_items : State → ℕ → ℕ → List Item → Lending → Lending
lend_items st c v [] l = l
lend_items st c v (i ∷ is) l = lend_items st c v is (lend_item st c v i l)

-- (rule ask-ok-1) the request takes the next number, then each copy takes one
unfoldable pub lent : State → ℕ → List Item → Lending
lent st c is = lend_items st c st.next is (record { rows = st.rows; items = []; next = suc st.next })

-- (rules L3, L10, ask-ok-4) open, not fetched, on port c, asked by p
unfoldable pub new_request : ℕ → ℕ → ℕ → List ℕ → Request
new_request v c p is = record { number = v; port = c; asker = p; fetched = waiting_mark; items = pad 0 most_items is }

unfoldable pub with_request : State → ℕ → ℕ → List Item → State
with_request st p c is =
    let l = lent st c is in
    with_rows l.rows (with_requests (new_request st.next c p l.items ∷ st.requests) (with_next l.next st))

-- (rules L6, fetch-ok) every item that the request lists goes to the caller's c-list, and the request is fetched
unfoldable pub handed_to : ℕ → Request → Row → Row
handed_to p v r = if lists r.number v then with_place (in_clist p) r else r

unfoldable pub now_fetched : ℕ → Request → Request
now_fetched q v = if eqb v.number q then with_fetched fetched_mark v else v

unfoldable pub handed_over : ℕ → Request → State → State
handed_over p v st =
    with_rows (map (handed_to p v) st.rows) (with_requests (map (now_fetched v.number) st.requests) st)
