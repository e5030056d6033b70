-- Marks in bits: those that words hold, one for each slot, and how many they are.
use Rattle.std.specs.Prelude.{ℕ, zero, suc, ◌/◌, ◌%◌, ◌^◌, ◌≤◌, ◌<◌, Bool, false, not, List, [], ◌∷◌, ◌++◌, ◌≡◌, eqb, get_or, if◌then◌else◌}

-- the bits of a word; the words that have one for each slot (src/bits.rt)
abbrev pub BITS : ℕ
BITS = 64

abbrev pub WORDS : ℕ
WORDS = 16

-- bit k of a word is set
unfoldable pub bit : ℕ → ℕ → Bool
bit w k = eqb (w / 2 ^ k % 2) 1

-- the k lowest bits of a word, the lowest first
unfoldable pub bits_of : ℕ → ℕ → List Bool
bits_of zero w = []
bits_of (suc k) w = eqb (w % 2) 1 ∷ bits_of k (w / 2)

-- the marks that words of b bits hold, that of slot 0 first
unfoldable pub marks_by : ℕ → List ℕ → List Bool
marks_by b [] = []
marks_by b (w ∷ ws) = bits_of b w ++ marks_by b ws

abbrev pub marks_in : List ℕ → List Bool
marks_in ws = marks_by BITS ws

-- how many of the first i slots are marked
unfoldable pub gones : List Bool → ℕ → ℕ
gones ms zero = 0
gones ms (suc i) = if get_or ms i false then suc (gones ms i) else gones ms i

-- a bit as it is, or turned round
unfoldable pub same_as : Bool → Bool → Bool
same_as m b = if m then b else not b

-- among the first count slots, those from i up to e have their marks in one word
pub record EndsWord (i count e : ℕ) : Type 0 where
  pub after : i < e
  pub within : e ≤ count
  pub same : (x : ℕ) → i ≤ x → x < e → x / BITS ≡ i / BITS

-- two lists of marks agree on the first n slots
abbrev pub SameMarks : List Bool → List Bool → ℕ → Type 0
SameMarks ms ms' n = (i : ℕ) → i < n → get_or ms' i false ≡ get_or ms i false
