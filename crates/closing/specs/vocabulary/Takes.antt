-- What a closing makes of words and records: the whole, and its parts (records go home, the marked rows and requests are taken out).
use Rattle.std.specs.Prelude.{ℕ, ◌<◌, Bool, true, false, List, map, ◌≡◌, length, get_or}
use Rattle.rows.specs.declared.Process.{Process}
use Rattle.rows.specs.Lists.{some}
use Rattle.rows.specs.Tables.{State, no_process}
use Rattle.rows.specs.Sound.{sound}
use Rattle.rows.specs.Layout.{records_in}
use Rattle.rows.specs.vocabulary.Represents.{Represents}
use Rattle.rows.specs.vocabulary.Sizes.{PROCESSES}
use Rattle.changes.specs.vocabulary.Marks.{closed_under}
use Rattle.closing.specs.declared.Seed.{Seed}
use Rattle.closing.specs.Closing.{closes, homed, settled}
use Rattle.closing.specs.vocabulary.Seeds.{closes_of}
use Rattle.closing.specs.vocabulary.Marks.{RowCount, Stands, RowsMarked}

-- every sound state that the words t and the records p hold becomes its change by f, in the words u and the records v
abbrev pub Takes : (State → State) → List ℕ → List ℕ → List ℕ → List ℕ → Type 0
Takes f t p u v =
    (st : State) → sound st ≡ true → Represents t st → st.processes ≡ records_in p
    → Represents u (f st) × (records_in v ≡ (f st).processes)

-- if the rows g are marked, and the row through which x stands in its node is there, r is x gone home
abbrev pub Homes : List ℕ → ℕ → Process → List Bool → Process → Type 0
Homes t n x removed r =
    (st : State) (g : List ℕ) → Represents t st → RowCount n st → RowsMarked removed g st
    → (some x.through ≡ true → Stands st x.through) → r ≡ homed g x

-- as many records, and each in its place is gone home or stays
abbrev pub HomesEach : List ℕ → ℕ → List Process → List Bool → List Process → Type 0
HomesEach t n ps removed r =
    (length r ≡ length ps) × ((k : ℕ) → k < length ps → Homes t n (get_or ps k no_process) removed (get_or r k no_process))

-- if the rows g are marked, r are the records gone home
abbrev pub HomesAll : List ℕ → ℕ → List Process → List Bool → List Process → Type 0
HomesAll t n ps removed r =
    (st : State) (g : List ℕ) → sound st ≡ true → Represents t st → RowCount n st → RowsMarked removed g st → st.processes ≡ ps
    → r ≡ map (homed g) ps

-- the first i records have gone through no row
abbrev pub HomeTo : List ℕ → ℕ → Type 0
HomeTo p i = (k : ℕ) → k < i → (get_or (records_in p) k no_process).through ≡ 0

-- where r says no, none of the records has
abbrev pub AwayIfAny : List ℕ → Bool → Type 0
AwayIfAny p r = r ≡ false → HomeTo p PROCESSES

-- if the rows g are marked, the records in the words v are those in p, gone home
abbrev pub HomesWords : List ℕ → ℕ → List ℕ → List Bool → List ℕ → Type 0
HomesWords t n p removed v = HomesAll t n (records_in p) removed (records_in v)

-- if the rows g are marked, and with a row all that comes from it, the words u are those of the state without them and what closes with them
abbrev pub TakesOut : Seed → ℕ → List Bool → List ℕ → List ℕ → Type 0
TakesOut s n removed t u =
    (st : State) (g : List ℕ) → sound st ≡ true → Represents t st → RowCount n st → RowsMarked removed g st
    → closed_under g st.rows ≡ true → Represents u (settled g (closes (closes_of s) g) st)
