-- What contracts of a test of one slot say.
use Rattle.std.specs.Prelude.{◌≡◌, ℕ, suc, ◌+◌, Bool, List, ◌∷◌, ◌++◌, length}
use Rattle.rows.specs.declared.Row.{Row}
use Rattle.rows.specs.Tables.{State}
use Rattle.rows.specs.Lists.{each}
use Rattle.rows.specs.Sound.{ends_paired}
use Rattle.rows.specs.Layout.{raw_row}
use Rattle.rows.specs.vocabulary.Represents.{Represents}
use Rattle.soundness_rows.specs.vocabulary.Clauses.{by_sources, beside_older}
use Rattle.soundness_rows.specs.vocabulary.Packed.{Faithful}

-- b is what the test says of the element at slot i, counted from the oldest, with the older ones at hand
pub record AtSlot {A : Type 0} (F : A → List A → Bool) (xs : List A) (i : ℕ) (b : Bool) : Type 0 where
  pub told : (new : List A) (x : A) (old : List A) → xs ≡ new ++ (x ∷ old) → length old ≡ i → b ≡ F x old

-- ends have the object that their number tells
pub record PortsNamed (rs : List Row) : Type 0 where
  pub client : (new : List Row) (y : Row) (old : List Row) → rs ≡ new ++ (y ∷ old) → y.kind ≡ 3 → y.object ≡ y.number
  pub server : (new : List Row) (y : Row) (old : List Row) → rs ≡ new ++ (y ∷ old) → y.kind ≡ 4 → suc y.object ≡ y.number

-- ---- of every state that t represents
-- r says of every two rows whose words a and b are, b right after a, whether they may stand so
abbrev pub OfNeighbours : Row → Row → Bool → Type 0
OfNeighbours a b r = (t : List ℕ) (st : State) (i : ℕ) → Represents t st → a ≡ raw_row t i → b ≡ raw_row t (i + 1) → AtSlot beside_older st.rows (i + 1) r

-- r says whether ends stand in pairs, where n rows stand whose ends have the objects that their numbers tell
abbrev pub OfPorts : List ℕ → ℕ → Bool → Type 0
OfPorts t n r = (st : State) → Represents t st → n ≡ length st.rows → PortsNamed st.rows → r ≡ ends_paired st.rows

-- r is what the clauses of sources say of the row at slot i, where n rows stand, whose words tell what they say
abbrev pub OfSources : List ℕ → ℕ → ℕ → Bool → Type 0
OfSources t n i r = (st : State) → Represents t st → n ≡ length st.rows → Faithful st.rows → AtSlot by_sources st.rows i r

-- the same of all rows
abbrev pub OfFaithful : List ℕ → ℕ → Bool → Type 0
OfFaithful t n r = (st : State) → Represents t st → n ≡ length st.rows → Faithful st.rows → r ≡ each by_sources st.rows
