-- What the functions that join the clauses say.
use Rattle.std.specs.Prelude.{ℕ, Bool, true, ◌&&◌, List, ◌≡◌, length}
use Rattle.rows.specs.Tables.{State}
use Rattle.rows.specs.Sound.{below_next, next_in_range, records_in_range, sound}
use Rattle.rows.specs.Layout.{records_in}
use Rattle.rows.specs.vocabulary.Represents.{Represents}

-- the two clauses of the next number
abbrev pub all_of_next : State → Bool
all_of_next st = next_in_range st.next && below_next st.next st.rows st.requests

-- r says whether the state that t and p hold is sound, n rows and m requests standing, if its next number and records are in range
abbrev pub TestsRest : List ℕ → List ℕ → ℕ → ℕ → Bool → Type 0
TestsRest t p n m r =
    (st : State) → Represents t st → st.processes ≡ records_in p → n ≡ length st.rows → m ≡ length st.requests
    → all_of_next st ≡ true → records_in_range st.processes ≡ true → r ≡ sound st
