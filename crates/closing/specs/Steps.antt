-- Closing round after round until nothing more is removed, as the rules of docs/MANUAL.md, chapter 5, say it.
-- On sound tables the one pass of Closing.antt is this: kept/proofs/Steps.antt proves it.
use Rattle.std.specs.Prelude.{ℕ, zero, suc, Bool, ◌&&◌, ◌||◌, List, [], ◌∷◌, map, length}
use Rattle.rows.specs.declared.Row.{Row}
use Rattle.rows.specs.declared.Request.{Request}
use Rattle.rows.specs.Lists.{filter, member, some}
use Rattle.rows.specs.Tables.{State, marked}
use Rattle.closing.specs.Closing.{closes, is_end_of, settled}

-- (rule C3) rows removed and requests closed so far
pub record Gone : Type 0 where
  pub removed : List ℕ
  pub closed : List ℕ

-- (rule C1) the row bears the number of a closed request, or is itself removed
unfoldable pub falls : Gone → Row → Bool
falls g r = member r.number g.removed || (some r.request && member r.request g.closed)

-- (rules C1, C2) every row that comes from what closed is removed
unfoldable pub remove_rows : List Row → Gone → Gone
remove_rows rs g = record { removed = marked (falls g) rs; closed = g.closed }

-- (rule C3) a port whose ends are removed has ended, and the request open on it closes too
unfoldable pub close_requests : List Request → Gone → Gone
close_requests vs g = record { removed = g.removed; closed = map (λ v. v.number) (filter (closes g.closed g.removed) vs) }

unfoldable pub round : State → Gone → Gone
round st g = remove_rows st.rows (close_requests st.requests g)

-- (rule C3) until a round removes nothing: each round but the last closes one request at least
unfoldable pub rounds : ℕ → State → Gone → Gone
rounds zero st g = g
rounds (suc k) st g = rounds k st (round st g)

unfoldable pub until_no_more : State → Gone → Gone
until_no_more st g = rounds (suc (length st.requests)) st g

-- (rules C4, C5, C6, C7, C8) all else follows from what is removed and closed
unfoldable pub closing_by_steps : Gone → State → State
closing_by_steps start st =
    let g = until_no_more st (remove_rows st.rows start) in
    settled g.removed (λ v. member v.number g.closed) st

unfoldable pub close_request_by_steps : ℕ → State → State
close_request_by_steps q st = closing_by_steps (record { removed = []; closed = q ∷ [] }) st

unfoldable pub close_port_by_steps : ℕ → State → State
close_port_by_steps c st = closing_by_steps (record { removed = map (λ r. r.number) (filter (is_end_of c) st.rows); closed = [] }) st
