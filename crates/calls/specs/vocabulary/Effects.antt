-- What the calls' effects do to the lent words, for every state that the words represent with so many rows.
use Rattle.std.specs.Prelude.{ℕ, suc, ◌<◌, ◌≤◌, true, List, ◌∷◌, ◌≡◌}
use Rattle.rows.specs.declared.Row.{Row}
use Rattle.rows.specs.Lists.{top_of}
use Rattle.rows.specs.Tables.{State, row_of, process_at, is_listed}
use Rattle.rows.specs.Setters.{with_rows}
use Rattle.rows.specs.Sound.{sound}
use Rattle.rows.specs.Layout.{row_slot, records_in}
use Rattle.rows.specs.vocabulary.Represents.{Represents}
use Rattle.rows.specs.vocabulary.Slots.{number_of_slot}
use Rattle.rows.specs.vocabulary.Sizes.{PROCESSES}
use Rattle.calls.specs.declared.NewCopy.{NewCopy}
use Rattle.calls.specs.declared.NewPort.{NewPort}
use Rattle.rows.specs.Codes.{client_end, server_end}
use Rattle.calls.specs.Rules.{copy_of}
use Rattle.calls.specs.Calls.{go_home, go_through, with_held, held_depth, with_registered, registered_depth, port_end, with_port, port_depth}
use Rattle.calls.specs.vocabulary.Lookups.{HasRows, StandsAt}

-- ---- what reading a line gives
-- a process's number
abbrev pub IsProcess : ℕ → Type 0
IsProcess p = (0 < p) × (p ≤ PROCESSES)

-- ---- go
-- the records ps become the records left
abbrev pub GoesHome : List ℕ → ℕ → List ℕ → Type 0
GoesHome ps p left = (st : State) → st.processes ≡ records_in ps → records_in left ≡ (go_home st p).processes

-- through the row e, which stands in slot i
abbrev pub GoesThrough : List ℕ → ℕ → List ℕ → ℕ → ℕ → List ℕ → Type 0
GoesThrough t i ps p e left =
    (st : State) → Represents t st → StandsAt st e i → st.processes ≡ records_in ps
    → records_in left ≡ (go_through st p e).processes

-- ---- a new row
-- the number is above those of all rows
abbrev pub IsNew : State → ℕ → Type 0
IsNew st k = top_of (λ r. r.number) st.rows < k

-- a copy of row e, its sources the rows s and v, which stand at its source words
abbrev pub copy_as : State → ℕ → ℕ → ℕ → NewCopy → Row
copy_as st e s v w = copy_of (row_of st.rows e) w.number w.rights w.place s v w.depth w.request

-- the words after have a copy more of the row in slot i
abbrev pub Copied : List ℕ → ℕ → ℕ → NewCopy → List ℕ → Type 0
Copied t n i w after =
    (st : State) (e s v : ℕ) → HasRows t n st → StandsAt st e i → IsNew st w.number
    → number_of_slot st.rows w.source ≡ s → number_of_slot st.rows w.via ≡ v
    → Represents after (with_rows (copy_as st e s v w ∷ st.rows) st)

-- ---- hold: the row s stands in slot i, what the caller went through is at the source word via
abbrev pub HeldBy : List ℕ → ℕ → ℕ → ℕ → ℕ → ℕ → ℕ → List ℕ → Type 0
HeldBy t n i p via d next after =
    (st : State) (s : ℕ) → sound st ≡ true → HasRows t n st → StandsAt st s i → is_listed st.processes p ≡ true
    → row_slot st.rows (process_at st.processes p).through ≡ via → held_depth st p s ≡ d → st.next ≡ next
    → Represents after (with_held st p s)

-- ---- register: the row e stands in slot i, its first source is at the source word, the caller is in the node
abbrev pub RegisteredBy : List ℕ → ℕ → ℕ → ℕ → ℕ → ℕ → ℕ → List ℕ → Type 0
RegisteredBy t n i node source d next after =
    (st : State) (p e : ℕ) → sound st ≡ true → HasRows t n st → StandsAt st e i
    → (process_at st.processes p).active ≡ node
    → row_slot st.rows (row_of st.rows e).source ≡ source → registered_depth st e ≡ d → st.next ≡ next
    → Represents after (with_registered st p e)

-- ---- port
-- the two ends of a port from the row e
abbrev pub client_of : ℕ → NewPort → Row
client_of e w = port_end client_end w.number w.number w.client e w.depth

abbrev pub server_of : ℕ → NewPort → Row
server_of e w = port_end server_end (suc w.number) w.number w.server e w.depth

-- the words after have both ends more
abbrev pub EndsAdded : List ℕ → ℕ → NewPort → List ℕ → Type 0
EndsAdded t n w after =
    (st : State) (e : ℕ) → HasRows t n st → IsNew st w.number → number_of_slot st.rows w.source ≡ e
    → Represents after (with_rows (server_of e w ∷ client_of e w ∷ st.rows) st)

-- the operation row e stands in slot i
abbrev pub PortMade : List ℕ → ℕ → ℕ → ℕ → ℕ → ℕ → List ℕ → Type 0
PortMade t n i p d next after =
    (st : State) (e : ℕ) → sound st ≡ true → HasRows t n st → StandsAt st e i → (row_of st.rows e).object ≤ PROCESSES
    → port_depth st e ≡ d → st.next ≡ next
    → Represents after (with_port st p e)
