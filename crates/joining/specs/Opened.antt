-- What the state that a joined text opens is told by (docs/MANUAL.md, 10.2): the entries of a node in a state, how often an entry stands, a text's own forms in order.
use Rattle.std.specs.Prelude.{ℕ, List, [], ◌∷◌, ◌++◌, map, reverse, Bool, ltb, eqb, length, if◌then◌else◌}
use Rattle.rows.specs.declared.Row.{Row}
use Rattle.rows.specs.Lists.{filter}
use Rattle.rows.specs.Limits.{nodes, processes}
use Rattle.rows.specs.Codes.{in_node}
use Rattle.rows.specs.Tables.{State}
use Rattle.text.specs.declared.Entry.{Entry}
use Rattle.text.specs.Opening.{Form, gives_node, gives_process}
use Rattle.joining.specs.Joins.{node_in, entries_of, same_entry, numbers_from}

-- ---- the entries of a node
-- (rules P37, R6) the entry that a row was made of
unfoldable pub row_entry : Row → Entry
row_entry r = record { kind = r.kind; object = r.object; operation = r.operation; rights = r.rights }

-- (rule P37) those of the rows in node n, the oldest first
unfoldable pub entries_at : State → ℕ → List Entry
entries_at st n = map row_entry (reverse (filter (λ r. eqb r.place (in_node n)) st.rows))

-- ---- how often
-- (rule P37) how often an entry stands among others
unfoldable pub times : Entry → List Entry → ℕ
times e es = length (filter (same_entry e) es)

-- (rules P37, J4) in a node of the first text as often as there, or once if the second alone has it; else as often as in the second
unfoldable pub times_joined : List Form → List Form → ℕ → Entry → ℕ
times_joined fs gs n e =
    let a = times e (entries_of fs n) in
    let b = times e (entries_of gs n) in
    if node_in fs n then (if ltb 0 a then a else (if ltb 0 b then 1 else 0)) else b

-- ---- a text's own forms
-- (rule P38) those that give the numbers, number by number
unfoldable pub giving_each : (ℕ → Form → Bool) → List ℕ → List Form → List Form
giving_each gives [] fs = []
giving_each gives (n ∷ ns) fs = filter (gives n) fs ++ giving_each gives ns fs

-- (rule P38) nodes first, each kind in rising number
unfoldable pub in_order : List Form → List Form
in_order fs = giving_each gives_node (numbers_from 1 nodes) fs ++ giving_each gives_process (numbers_from 1 processes) fs
