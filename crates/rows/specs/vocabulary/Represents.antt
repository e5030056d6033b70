-- What contracts over the lent words say first: the words represent a state; and what a change makes of that state.
use Rattle.std.specs.Prelude.{◌≡◌, ℕ, Bool, true, ◌&&◌, List, map, ◌==◌, if◌then◌else◌}
use Rattle.rows.specs.declared.Row.{Row}
use Rattle.rows.specs.declared.Request.{Request}
use Rattle.rows.specs.Lists.{all, each, member}
use Rattle.rows.specs.Tables.{State, numbers, sources}
use Rattle.rows.specs.Setters.{with_rows, with_requests}
use Rattle.rows.specs.Sound.{rows_rise, requests_rise, rows_fit, requests_fit, items_few}
use Rattle.rows.specs.Layout.{words_of}

-- ---- words that represent a state
-- the sources of each row are numbers of older rows
unfoldable pub sources_older : List Row → Bool
sources_older rows = each (λ r rs. all (λ s. member s (numbers rs)) (sources r)) rows

unfoldable pub laid_well : State → Bool
laid_well st = rows_rise st.rows && (requests_rise st.requests && (rows_fit st.rows && (requests_fit st.requests && (items_few st.requests && sources_older st.rows))))

-- the words t are those of the state, and the state can be read back from them
pub record Represents (t : List ℕ) (st : State) : Type 0 where
  pub well : laid_well st ≡ true
  pub words : t ≡ words_of st

-- ---- changes
-- the rows with a change to the one numbered n; the requests likewise
unfoldable pub change_row : ℕ → (Row → Row) → State → State
change_row n g st = with_rows (map (λ r. if r.number == n then g r else r) st.rows) st

unfoldable pub change_request : ℕ → (Request → Request) → State → State
change_request q g st = with_requests (map (λ v. if v.number == q then g v else v) st.requests) st
