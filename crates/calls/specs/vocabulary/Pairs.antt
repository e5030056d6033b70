-- What the functions of comesall tell of pairs, over words that represent a state: what the definition tells.
use Rattle.std.specs.Prelude.{ℕ, true, List, ◌≡◌, length, get_or}
use Rattle.rows.specs.Tables.{State}
use Rattle.rows.specs.Sound.{sound}
use Rattle.rows.specs.vocabulary.Represents.{Represents}
use Rattle.questions.specs.vocabulary.Pairs.{PAIRS, MarksPairs}
use Rattle.calls.specs.Calls.{told, told_each}
use Rattle.calls.specs.vocabulary.Lookups.{HasRows, HasRequests}

-- there is a number for each pair
abbrev pub Sixteens : List ℕ → Type 0
Sixteens ns = length ns ≡ PAIRS

-- r is what is told of pair k, row e and request q, if the rows are marked for the pairs' requests
abbrev pub TellsPair : List ℕ → ℕ → ℕ → List ℕ → ℕ → ℕ → ℕ → ℕ → Type 0
TellsPair t n m marks k e q r =
    (st : State) (qs : List ℕ) → sound st ≡ true → HasRows t n st → HasRequests t m st → MarksPairs t n qs marks
    → get_or qs k 0 ≡ q → r ≡ told st e q

-- r is what is told of each pair, if the rows are so marked
abbrev pub TellsEach : List ℕ → ℕ → ℕ → List ℕ → List ℕ → List ℕ → List ℕ → Type 0
TellsEach t n m marks es qs r =
    (st : State) → sound st ≡ true → HasRows t n st → HasRequests t m st → MarksPairs t n qs marks
    → r ≡ told_each st es qs

-- r is what is told of each pair
abbrev pub TellsAll : List ℕ → List ℕ → List ℕ → List ℕ → Type 0
TellsAll t es qs r = (st : State) → sound st ≡ true → Represents t st → r ≡ told_each st es qs
