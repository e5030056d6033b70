-- Small computing functions over Bool, numbers and lists.
use Rattle.std.specs.Prelude.{ℕ, zero, suc, Bool, true, false, not, ◌&&◌, ◌||◌, List, [], ◌∷◌, ◌++◌, length, ◌==◌, if◌then◌else◌, nat_le, nat_lt}
use Prim.Native.Char.{code}
use Prim.Native.String.{String, [] as []ˢ, ◌∷◌ as ◌∷ˢ◌}

module _ {A : Type 0} where
  unfoldable pub filter : (A → Bool) → List A → List A
  filter f [] = []
  filter f (x ∷ xs) = if f x then x ∷ filter f xs else filter f xs

  unfoldable pub any : (A → Bool) → List A → Bool
  any f [] = false
  any f (x ∷ xs) = f x || any f xs

  unfoldable pub all : (A → Bool) → List A → Bool
  all f [] = true
  all f (x ∷ xs) = f x && all f xs

  -- of each element, with those after it at hand
  unfoldable pub each : (A → List A → Bool) → List A → Bool
  each f [] = true
  each f (x ∷ xs) = f x xs && each f xs

  -- the first element whose key is n, or none
  unfoldable pub first_with : (A → ℕ) → A → List A → ℕ → A
  first_with key none [] n = none
  first_with key none (x ∷ xs) n = if key x == n then x else first_with key none xs n

  -- how many elements come after the first whose key is n, plus 1; 0 for none
  unfoldable pub slot_with : (A → ℕ) → List A → ℕ → ℕ
  slot_with key [] n = 0
  slot_with key (x ∷ xs) n = if key x == n then suc (length xs) else slot_with key xs n

  -- the key of the first element, 0 for none
  unfoldable pub top_of : (A → ℕ) → List A → ℕ
  top_of key [] = 0
  top_of key (x ∷ xs) = key x

  -- from the last element to the first the keys rise, from above 0
  unfoldable pub rises : (A → ℕ) → List A → Bool
  rises key [] = true
  rises key (x ∷ xs) = nat_lt (top_of key xs) (key x) && rises key xs

  -- xs, with d after it up to n elements
  unfoldable pub pad : A → ℕ → List A → List A
  pad d zero xs = xs
  pad d (suc n) [] = d ∷ pad d n []
  pad d (suc n) (x ∷ xs) = x ∷ pad d n xs

  -- one word of each element, the last element's first; the elements after it are at hand
  unfoldable pub laid : (A → List A → ℕ) → List A → List ℕ
  laid f [] = []
  laid f (x ∷ xs) = laid f xs ++ (f x xs ∷ [])

unfoldable pub member : ℕ → List ℕ → Bool
member n [] = false
member n (m ∷ ms) = n == m || member n ms

unfoldable pub distinct : List ℕ → Bool
distinct [] = true
distinct (n ∷ ns) = not (member n ns) && distinct ns

unfoldable pub same_list : List ℕ → List ℕ → Bool
same_list [] [] = true
same_list [] (b ∷ bs) = false
same_list (a ∷ xs) [] = false
same_list (a ∷ xs) (b ∷ bs) = a == b && same_list xs bs

-- lo ≤ n ≤ hi
unfoldable pub between : ℕ → ℕ → ℕ → Bool
between lo hi n = nat_le lo n && nat_le n hi

-- what is not 0
unfoldable pub some : ℕ → Bool
some n = nat_lt 0 n

unfoldable pub nonzero : List ℕ → List ℕ
nonzero ns = filter some ns

-- the bytes of a text
unfoldable pub bytes : String → List ℕ
bytes []ˢ = []
bytes (c ∷ˢ s) = code c ∷ bytes s
