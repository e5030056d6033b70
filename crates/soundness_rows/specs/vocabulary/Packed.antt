-- The word that packs a row for the tests of the rows that come from it, and what it tells.
use Rattle.std.specs.Prelude.{◌≡◌, ℕ, suc, ◌+◌, ◌*◌, ◌/◌, ◌%◌, ◌<◌, Bool, false, cond, ◌&&◌, List, ◌∷◌, ◌++◌, ◌==◌, nat_eq, slice_index, slice_index_or}
use Rattle.rows.specs.declared.Row.{Row}
use Rattle.rows.specs.Codes.{is_node, is_end}
use Rattle.rows.specs.Layout.{raw_row}

unfoldable pub packed : Row → ℕ
packed r =
    r.rights % 8
    + (8 * (r.kind % 8) + 64 * (r.operation % 256) + 16384 * (r.object % 128))
    + 2097152 * cond (is_node r.place) 1 0
    + 4194304 * (r.depth % 16)

-- w tells of the row r what its parts say
pub record Packs (w : ℕ) (r : Row) : Type 0 where
  pub rights : w % 8 ≡ r.rights
  pub kind : w / 8 % 8 ≡ r.kind
  pub node : nat_eq (w / 2097152 % 2) 1 ≡ is_node r.place
  pub depth : w / 4194304 ≡ r.depth
  pub object : w / 8 % 262144 ≡ r.kind + 8 * r.operation + 2048 * (r.object % 128)
  pub kind_fits : r.kind < 8
  pub operation-fits : r.operation < 256
  pub object-fits : is_end r.kind ≡ false → r.object < 128

-- ---- contracts
-- r is F of every row that w packs
abbrev pub Unpacks : {A : Type 0} → ℕ → A → (Row → A) → Type 0
Unpacks w r F = (y : Row) → Packs w y → r ≡ F y

-- r says of every two rows that a and b pack, the first no end, whether kind, object and operation are the same
abbrev pub SameObject : ℕ → ℕ → Bool → Type 0
SameObject a b r =
    (y z : Row) → Packs a y → Packs b z → is_end y.kind ≡ false
    → r ≡ (y.kind == z.kind && (y.object == z.object && y.operation == z.operation))

-- the words pack the rows of the first n slots, each one slot further on, and no row at 0
pub record PacksRows (t : List ℕ) (n : ℕ) (l : List ℕ) : Type 0 where
  pub none : slice_index_or l 0 0 ≡ 0
  pub at : (i : ℕ) → i < n → slice_index l (suc i) ≡ packed (raw_row t i)

-- the word of each row tells of it what its parts say
pub record Faithful (rs : List Row) : Type 0 where
  pub packs : (new : List Row) (y : Row) (old : List Row) → rs ≡ new ++ (y ∷ old) → Packs (packed y) y
