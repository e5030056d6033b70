-- What contracts of tests over the lent words say: r is F of every state that the words represent, whatever its other parts are.
-- t are the words of the tables, p those of the process records; n rows and m requests stand.
use Rattle.std.specs.Prelude.{◌≡◌, ℕ, Bool, List, length}
use Rattle.rows.specs.declared.Row.{Row}
use Rattle.rows.specs.declared.Request.{Request}
use Rattle.rows.specs.Tables.{State}
use Rattle.rows.specs.Layout.{records_in}
use Rattle.rows.specs.vocabulary.Represents.{Represents}

-- r is F of the rows
abbrev pub OfRows : {A : Type 0} → List ℕ → ℕ → A → (List Row → A) → Type 0
OfRows t n r F = (st : State) → Represents t st → n ≡ length st.rows → r ≡ F st.rows

-- r is F of the requests
abbrev pub OfRequests : {A : Type 0} → List ℕ → ℕ → A → (List Request → A) → Type 0
OfRequests t m r F = (st : State) → Represents t st → m ≡ length st.requests → r ≡ F st.requests

-- r is what the clauses C, which ask nothing of processes, say of the state
abbrev pub TestsTables : List ℕ → ℕ → ℕ → Bool → (State → Bool) → Type 0
TestsTables t n m r C = (st : State) → Represents t st → n ≡ length st.rows → m ≡ length st.requests → r ≡ C st

-- r is what the clauses C say of the state
abbrev pub Tests : List ℕ → List ℕ → ℕ → ℕ → Bool → (State → Bool) → Type 0
Tests t p n m r C =
    (st : State) → Represents t st → st.processes ≡ records_in p → n ≡ length st.rows → m ≡ length st.requests → r ≡ C st
