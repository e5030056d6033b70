-- Marks of what is to be removed, one for each slot, oldest first; what is left, and the slots that it moves to.
use Rattle.std.specs.Prelude.{ℕ, zero, suc, ◌+◌, ◌-◌, ◌*◌, ◌≤◌, ◌<◌, min, Bool, true, false, not, ◌||◌, List, [], ◌∷◌, ◌++◌, ◌≡◌, length, get_or, take, drop, if◌then◌else◌}
use Rattle.rows.specs.declared.Row.{Row}
use Rattle.rows.specs.declared.Request.{Request}
use Rattle.rows.specs.Lists.{any, all, pad, member}
use Rattle.rows.specs.Tables.{sources}
use Rattle.rows.specs.vocabulary.Sizes.{ROWS, REQUESTS, SOURCE, VIA, DEPTH}

-- ---- marks
module _ {A : Type 0} where
  -- whether each element passes the test, the last element's answer first
  unfoldable pub tested : (A → Bool) → List A → List Bool
  tested f [] = []
  tested f (x ∷ xs) = tested f xs ++ (f x ∷ [])

  -- what is not marked; past the end of the marks nothing is
  unfoldable pub keep : List Bool → List A → List A
  keep [] xs = xs
  keep (m ∷ ms) [] = []
  keep (m ∷ ms) (x ∷ xs) = if m then keep ms xs else x ∷ keep ms xs

-- the rows whose numbers are in g
unfoldable pub marks_of : List ℕ → List Row → List Bool
marks_of g rows = tested (λ r. member r.number g) rows

-- a row that is not in g has no source in g: no row outlives its source
unfoldable pub closed_under : List ℕ → List Row → Bool
closed_under g rows = all (λ r. member r.number g || not (any (λ s. member s g) (sources r))) rows

-- ---- runs of slots
-- from one slot up to another no mark is m; none is marked; all are
abbrev pub Passes : List Bool → Bool → ℕ → ℕ → Type 0
Passes ms m from to = (i : ℕ) → from ≤ i → i < to → get_or ms i false ≡ not m

abbrev pub NoneMarked : List Bool → ℕ → ℕ → Type 0
NoneMarked ms from to = Passes ms true from to

abbrev pub AllMarked : List Bool → ℕ → ℕ → Type 0
AllMarked ms from to = Passes ms false from to

-- the run of slots whose mark is not m, from one slot on, among the first count: it ends before the slot r
pub record EndsAt (ms : List Bool) (m : Bool) (from count r : ℕ) : Type 0 where
  pub after : from ≤ r
  pub within : r ≤ count
  pub passed : Passes ms m from r
  pub stops : r < count → get_or ms r false ≡ m

-- it does so wherever the run starts before the slot mid
abbrev pub EndsOn : List Bool → Bool → ℕ → ℕ → ℕ → Type 0
EndsOn ms m mid count r = (from : ℕ) → from ≤ mid → from ≤ count → Passes ms m from mid → EndsAt ms m from count r

-- the marks of all slots of rows: set for the rows in g; of requests: for those that pass the test
abbrev pub MarkedRows : List Bool → List ℕ → List Row → Type 0
MarkedRows ms g rows = ms ≡ pad false ROWS (marks_of g rows)

abbrev pub MarkedRequests : List Bool → (Request → Bool) → List Request → Type 0
MarkedRequests ms f requests = ms ≡ pad false REQUESTS (tested f requests)

-- ---- a column
-- k words from one position on, moved down to another; the words that they do not reach stay
unfoldable pub slid : ℕ → ℕ → ℕ → List ℕ → List ℕ
slid to from k l = take to l ++ (take k (drop from l) ++ drop (to + k) l)

-- the words from a position up to another are 0
unfoldable pub cleared : ℕ → ℕ → List ℕ → List ℕ
cleared from to l = pad 0 to (take from l) ++ drop to l

-- of the first n words those that are not marked come first, 0 after them; the others stay
unfoldable pub compacted : List Bool → ℕ → List ℕ → List ℕ
compacted ms n l = pad 0 n (keep ms (take n l)) ++ drop n l

-- the words at the first positions of a list
unfoldable pub picked : List ℕ → ℕ → List ℕ → List ℕ
picked slots zero l = []
picked slots (suc n) l = picked slots n l ++ (get_or l (get_or slots n 0) 0 ∷ [])

-- they are moved down to a position, one after the other; the words that they do not reach stay
unfoldable pub gathered : ℕ → List ℕ → ℕ → List ℕ → List ℕ
gathered to slots n l = take to l ++ (picked slots n l ++ drop (to + n) l)

-- each of the first c parts of k words changed by f
unfoldable pub on_parts : (List ℕ → List ℕ) → ℕ → ℕ → List ℕ → List ℕ
on_parts f k zero l = []
on_parts f k (suc c) l = on_parts f k c l ++ f (take k (drop (c * k) l))

-- ---- words that move down
-- of the first i words those that are not marked stand in front, j of them, and the words from i on are as they were
pub record Passed (ms : List Bool) (l l' : List ℕ) (i j : ℕ) : Type 0 where
  pub long : length l' ≡ length l
  pub back : j ≤ i
  pub front : take j l' ≡ keep ms (take i l)
  pub rest : drop i l' ≡ drop i l

-- the part c of the parts of k words
abbrev pub part : ℕ → List ℕ → ℕ → List ℕ
part k l c = take k (drop (c * k) l)

-- it is so in each of m parts
abbrev pub Moved : List Bool → ℕ → ℕ → List ℕ → List ℕ → ℕ → ℕ → Type 0
Moved ms k m l l' i j = (c : ℕ) → c < m → Passed ms (part k l c) (part k l' c) i j

-- once it is for the first i words, with j in front, it is for the first e, with n in front
abbrev pub MovesOn : List Bool → ℕ → ℕ → ℕ → ℕ → ℕ → ℕ → List ℕ → List ℕ → Type 0
MovesOn ms k m i j e n l l' = (l₀ : List ℕ) → length l₀ ≡ m * k → Moved ms k m l₀ l i j → Moved ms k m l₀ l' e n

-- ---- slots
-- how many of the first i slots are not marked
unfoldable pub lefts : List Bool → ℕ → ℕ
lefts ms zero = 0
lefts ms (suc i) = if get_or ms i false then lefts ms i else suc (lefts ms i)

-- the first n slots of a list are not before the positions from one on, and below an end
abbrev pub Ahead : ℕ → ℕ → List ℕ → ℕ → Type 0
Ahead to end slots n = (x : ℕ) → x < n → (to + x ≤ get_or slots x 0) × (get_or slots x 0 < end)

-- a list has the slots from one up to an end that are not marked, n of them, the oldest first
pub record Lists (ms : List Bool) (from end : ℕ) (slots : List ℕ) (n : ℕ) : Type 0 where
  pub number : lefts ms end ≡ lefts ms from + n
  pub few : from + n ≤ end
  pub ahead : Ahead from end slots n
  pub listed : (i : ℕ) → from ≤ i → i < end → get_or ms i false ≡ false → get_or slots (lefts ms i - lefts ms from) 0 ≡ i

-- what a slot plus 1 becomes; 0 stays 0
unfoldable pub moved_to : List Bool → ℕ → ℕ
moved_to ms zero = 0
moved_to ms (suc i) = suc (lefts ms i)

-- the word s of the table is what the slot plus 1 s becomes, up to n
abbrev pub Ranks : List Bool → ℕ → List ℕ → Type 0
Ranks ms n to = (s : ℕ) → s ≤ n → get_or to s 0 ≡ moved_to ms s

-- it is for the first i slots, and j is what the next one becomes plus 1
pub record Ranked (ms : List Bool) (to : List ℕ) (i j : ℕ) : Type 0 where
  pub next : j ≡ suc (lefts ms i)
  pub right : Ranks ms i to

-- a run of slots, none of which is marked: the words of those from one up to the end rise by 1 from j on, those before
-- them stay
pub record RanksRun (from end j : ℕ) (to to' : List ℕ) : Type 0 where
  pub before : (s : ℕ) → s ≤ from → get_or to' s 0 ≡ get_or to s 0
  pub rising : (i : ℕ) → from ≤ i → i < end → get_or to' (suc i) 0 ≡ j + (i - from)

-- once it is for the first slots up to one, it is for those up to the end
abbrev pub RanksOn : List Bool → ℕ → ℕ → ℕ → List ℕ → List ℕ → ℕ → Type 0
RanksOn ms from end j to to' j' = Ranked ms to from j → Ranked ms to' end j'

-- the word s of a table, or the last one
abbrev pub rank_at : List ℕ → ℕ → ℕ
rank_at to s = get_or to (min s ROWS) 0

-- the words from one position up to n are looked up in a table
pub record Remapped (to : List ℕ) (from n : ℕ) (l l' : List ℕ) : Type 0 where
  pub long : length l' ≡ length l
  pub before : (i : ℕ) → i < from → get_or l' i 0 ≡ get_or l i 0
  pub looked : (i : ℕ) → from ≤ i → i < n → get_or l' i 0 ≡ rank_at to (get_or l i 0)
  pub rest : (i : ℕ) → n ≤ i → get_or l' i 0 ≡ get_or l i 0

-- of the first n slots, the source word of each that is not marked becomes what the source's slot becomes, if the source
-- is older
pub record Renumbered (ms : List Bool) (n : ℕ) (l l' : List ℕ) : Type 0 where
  pub long : length l' ≡ length l
  pub moved : (i : ℕ) → i < n → get_or ms i false ≡ false → get_or l i 0 ≤ i → get_or l' i 0 ≡ moved_to ms (get_or l i 0)
  pub rest : (i : ℕ) → n ≤ i → get_or l' i 0 ≡ get_or l i 0

-- in both columns of sources; the other words stay
pub record RenumbersSources (ms : List Bool) (n : ℕ) (t u : List ℕ) : Type 0 where
  pub front : take SOURCE u ≡ take SOURCE t
  pub source : Renumbered ms n (take ROWS (drop SOURCE t)) (take ROWS (drop SOURCE u))
  pub via : Renumbered ms n (take ROWS (drop VIA t)) (take ROWS (drop VIA u))
  pub behind : drop DEPTH u ≡ drop DEPTH t
