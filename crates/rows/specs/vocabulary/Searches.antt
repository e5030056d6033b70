-- What the searches of a column say: numbers that rise, and the position of a number.
use Rattle.std.specs.Prelude.{◌≡◌, ℕ, ◌+◌, ◌<◌, ◌≤◌, Bool, true, ◌&&◌, List, ◌≢◌, nat_le, slice_index, if◌then◌else◌}
use Rattle.rows.specs.Lists.{some}
use Rattle.rows.specs.Layout.{leading}
use Rattle.std.specs.Prelude.{Option}
use Rattle.std.specs.Prelude.{Some, None}

-- the first k words rise strictly
unfoldable pub Ascending : ℕ → List ℕ → Type 0
Ascending k l = (i j : ℕ) → i < j → j < k → slice_index l i < slice_index l j

-- what is found is the last position of n among the first k words, if there is any
unfoldable pub LastAt : List ℕ → ℕ → ℕ → Option ℕ → Type 0
LastAt l k n (Some i) = (i < k) × (slice_index l i ≡ n) × ((j : ℕ) → i < j → j < k → slice_index l j ≢ n)
LastAt l k n None = (j : ℕ) → j < k → slice_index l j ≢ n

-- the same, if the first k words rise
abbrev pub LastAtIfAscending : List ℕ → ℕ → ℕ → Option ℕ → Type 0
LastAtIfAscending l k n r = Ascending k l → LastAt l k n r

-- ---- words in use
-- none of the words from one position up to another is 0
abbrev pub NoneZero : List ℕ → ℕ → ℕ → Type 0
NoneZero l from to = (i : ℕ) → from ≤ i → i < to → slice_index l i ≢ 0

-- the words in use stand in front of all others
abbrev pub UsedInFront : List ℕ → Type 0
UsedInFront l = (i j : ℕ) → i < j → 0 < slice_index l j → 0 < slice_index l i

-- then r is how many there are
abbrev pub LeadingIfFront : List ℕ → ℕ → Type 0
LeadingIfFront l r = UsedInFront l → r ≡ leading l

-- x is a number in use, and at most n
unfoldable pub is_up_to : ℕ → ℕ → Bool
is_up_to n x = some x && nat_le x n

-- half positions further on, if the number there is up to n
unfoldable pub step_to : List ℕ → ℕ → ℕ → ℕ → ℕ
step_to l n at half = if is_up_to n (slice_index l (at + half)) then at + half else at

-- the numbers up to n stand in front of all other words
abbrev pub UpToInFront : List ℕ → ℕ → Type 0
UpToInFront l n = (i j : ℕ) → i < j → is_up_to n (slice_index l j) ≡ true → is_up_to n (slice_index l i) ≡ true

-- r is the last position of a number up to n, 0 if there is none
pub record LastUpTo (l : List ℕ) (n r : ℕ) : Type 0 where
  pub here : 0 < r → is_up_to n (slice_index l r) ≡ true
  pub after : (j : ℕ) → r < j → is_up_to n (slice_index l j) ≢ true

abbrev pub LastUpToIfFront : List ℕ → ℕ → ℕ → Type 0
LastUpToIfFront l n r = UpToInFront l n → LastUpTo l n r
