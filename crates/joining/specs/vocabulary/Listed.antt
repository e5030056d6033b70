-- Whether what is named is given by either text.
use Rattle.std.specs.Prelude.{ℕ, Bool, not, ◌||◌, List, ◌++◌, ◌≡◌}
use Rattle.rows.specs.Lists.{all}
use Rattle.rows.specs.Limits.{nodes, processes}
use Rattle.text.specs.declared.Entry.{Entry}
use Rattle.text.specs.Opening.{Form, entry_listed, form_listed, prime_of}
use Rattle.joining.specs.Joins.{node_in, process_in, entries_of, numbers_from}
use Rattle.joining.specs.vocabulary.Directories.{entry_of, Held, OfBoth}

-- r says whether what an entry names is given; what all entries of these codes name
abbrev pub ListsEntry : List ℕ → List ℕ → Entry → Bool → Type 0
ListsEntry a b e r = OfBoth a b (λ fs gs. r ≡ entry_listed (fs ++ gs) e)

abbrev pub ListsCodes : List ℕ → List ℕ → List ℕ → Bool → Type 0
ListsCodes a b cs r = OfBoth a b (λ fs gs. r ≡ all (λ c. entry_listed (fs ++ gs) (entry_of c)) cs)

-- what the entries of node n of the forms hs name; the prime node of process p
abbrev pub node_listed : List Form → List Form → ℕ → Bool
node_listed fs hs n = all (entry_listed fs) (entries_of hs n)

abbrev pub prime_listed : List Form → List Form → ℕ → Bool
prime_listed fs hs p = not (process_in hs p) || node_in fs (prime_of hs p)

-- those of all nodes, of all processes, of all forms that the words w hold
abbrev pub ListsNodes : List ℕ → List ℕ → List ℕ → Bool → Type 0
ListsNodes a b w r = OfBoth a b (λ fs gs. (hs : List Form) → Held w hs → r ≡ all (node_listed (fs ++ gs) hs) (numbers_from 1 nodes))

abbrev pub ListsPrimes : List ℕ → List ℕ → List ℕ → Bool → Type 0
ListsPrimes a b w r = OfBoth a b (λ fs gs. (hs : List Form) → Held w hs → r ≡ all (prime_listed (fs ++ gs) hs) (numbers_from 1 processes))

abbrev pub ListsText : List ℕ → List ℕ → List ℕ → Bool → Type 0
ListsText a b w r = OfBoth a b (λ fs gs. (hs : List Form) → Held w hs → r ≡ all (form_listed (fs ++ gs)) hs)
