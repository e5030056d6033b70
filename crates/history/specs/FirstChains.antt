-- (rule P31) What `chain` answers, by the history, and what holds along it.
use Rattle.std.specs.Prelude.{ℕ, ◌≤◌, true, false, List, [], ◌∷◌, ◌≡◌, length}
use Rattle.rows.specs.declared.Row.{Row}
use Rattle.rows.specs.Limits.{greatest_depth}
use Rattle.rows.specs.Codes.{is_end, within}
use Rattle.rows.specs.Tables.{row_of}
use Rattle.history.specs.History.{History}
use Rattle.history.specs.Notes.{noted_of, first_only}
use Rattle.history.specs.Chains.{IsText}

-- of each two neighbours in a list
unfoldable pub Neighbours : (ℕ → ℕ → Type 0) → List ℕ → Type 0
Neighbours P [] = Unit {0}
Neighbours P (a ∷ []) = Unit {0}
Neighbours P (a ∷ b ∷ ns) = P a b × Neighbours P (b ∷ ns)

-- the first number of a list, and the last; 0 for none
unfoldable pub first_of : List ℕ → ℕ
first_of [] = 0
first_of (n ∷ ns) = n

unfoldable pub last_of : List ℕ → ℕ
last_of [] = 0
last_of (n ∷ []) = n
last_of (n ∷ m ∷ ns) = last_of (m ∷ ns)

-- (rule R15) a is the first source that the history notes of b
unfoldable pub IsFirstSource : History → ℕ → ℕ → Type 0
IsFirstSource h a b = first_only (noted_of h.rows b).sources ≡ a ∷ []

-- (rule P31) b has the rights of a or fewer; if it is no end, it names what a names
pub record Narrows (a b : Row) : Type 0 where
  pub rights : within b.rights a.rights ≡ true
  pub names : is_end b.kind ≡ false → (b.kind ≡ a.kind) × (b.object ≡ a.object) × (b.operation ≡ a.operation)

-- (rules R15, P31) ns is the first chain of row e, whole: from a row of the text, each row the first source of the next, to e
pub record FirstChain (h : History) (rows : List Row) (e : ℕ) (ns : List ℕ) : Type 0 where
  pub from-text : IsText h (first_of ns)
  pub sources : Neighbours (IsFirstSource h) ns
  pub to_row : last_of ns ≡ e
  -- (rule P31) no longer than e is deep, and so twelve rows at most
  pub not-longer : length ns ≤ (row_of rows e).depth
  pub twelve : length ns ≤ greatest_depth
  -- (rule P31) rights never grow from a row to the next
  pub rights : Neighbours (λ a b. Narrows (row_of rows a) (row_of rows b)) ns
