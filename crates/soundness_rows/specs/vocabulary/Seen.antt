-- What the tests of one row know of it: the words of its slot and of its sources' slots, and the request that it bears.
use Rattle.std.specs.Prelude.{◌≡◌, ℕ, zero, suc, ◌+◌, ◌<◌, ◌≤◌, Bool, List, ◌==◌, nat_eq, slice_index}
use Rattle.rows.specs.declared.Row.{Row}
use Rattle.rows.specs.Tables.{no_row, row_of}
use Rattle.rows.specs.Layout.{raw_row}
use Rattle.rows.specs.vocabulary.Sizes.{SOURCE, VIA}
use Rattle.soundness_rows.specs.vocabulary.Packed.{Packs}

-- x is y, but for the sources
pub record Same (x y : Row) : Type 0 where
  pub number : x.number ≡ y.number
  pub kind : x.kind ≡ y.kind
  pub object : x.object ≡ y.object
  pub operation : x.operation ≡ y.operation
  pub rights : x.rights ≡ y.rights
  pub place : x.place ≡ y.place
  pub depth : x.depth ≡ y.depth
  pub request : x.request ≡ y.request

-- y is a row of the state, rs the older rows; x is y with its sources as slots plus 1, s and v pack those sources, or no row
pub record Seen (x : Row) (s v : ℕ) (y : Row) (rs : List Row) : Type 0 where
  pub own : Same x y
  pub source : Packs s (row_of rs y.source)
  pub via : Packs v (row_of rs y.via)
  pub source-none : nat_eq x.source 0 ≡ (y.source == 0)
  pub via-none : nat_eq x.via 0 ≡ (y.via == 0)

-- ---- what a test of the words x, s and v says
-- r is F of every row y and older rows that have those words
abbrev pub SaysOf : Row → ℕ → ℕ → Bool → (Row → List Row → Bool) → Type 0
SaysOf x s v r F = (y : Row) (rs : List Row) → Seen x s v y rs → r ≡ F y rs

-- the same, where w packs the row itself
abbrev pub SaysOfPacked : Row → ℕ → ℕ → ℕ → Bool → (Row → List Row → Bool) → Type 0
SaysOfPacked x w s v r F = (y : Row) (rs : List Row) → Seen x s v y rs → Packs w y → r ≡ F y rs

-- ---- source words
-- the sources of the row at slot i are slots before its own, plus 1, or 0; those of the first n rows are
abbrev pub SourcesBefore : List ℕ → ℕ → Type 0
SourcesBefore t i = (slice_index t (SOURCE + i) ≤ i) × (slice_index t (VIA + i) ≤ i)

abbrev pub SourcesOlder : List ℕ → ℕ → Type 0
SourcesOlder t n = (i : ℕ) → i < n → SourcesBefore t i

-- the row at a slot plus 1
unfoldable pub slot_row : List ℕ → ℕ → Row
slot_row t zero = no_row
slot_row t (suc i) = raw_row t i
