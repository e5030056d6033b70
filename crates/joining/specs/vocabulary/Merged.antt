-- The codes of a joined node's entries, as code keeps them.
use Rattle.std.specs.Prelude.{ℕ, List, map, ◌≡◌, eqb, length}
use Rattle.rows.specs.Lists.{pad}
use Rattle.joining.specs.declared.Codes.{Codes}
use Rattle.joining.specs.Joins.{with_all_new, entries_joined}
use Rattle.joining.specs.vocabulary.Directories.{entry_code, OfBoth}

-- room for them
abbrev pub CODES : ℕ
CODES = 32

-- the codes, 0 after them, and their number
unfoldable pub in_codes : List ℕ → Codes
in_codes cs = record { count = length cs; codes = pad 0 CODES cs }

-- those of c, then the others that are new
abbrev pub AddsNew : Codes → List ℕ → Codes → Type 0
AddsNew c others r = (cs : List ℕ) → c ≡ in_codes cs → r ≡ in_codes (with_all_new eqb cs others)

-- the codes of node n of both texts
abbrev pub MergesNode : List ℕ → List ℕ → ℕ → Codes → Type 0
MergesNode a b n r = OfBoth a b (λ fs gs. r ≡ in_codes (map entry_code (entries_joined fs gs n)))
