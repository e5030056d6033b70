-- Sizes of a line, named in contracts as in code, and what its functions say of the bytes lent to them.
use Rattle.std.specs.Prelude.{ℕ, ◌+◌, ◌*◌, ◌-◌, ◌/◌, ◌%◌, ◌<◌, List, ◌++◌, ◌≡◌, eqb, leb, ltb, length, get_or, drop, if◌then◌else◌}
use Rattle.rows.specs.Layout.{rows_in}
use Rattle.page.specs.Page.{lines_from}

-- the columns of a line; its bytes, with the line feed
abbrev pub WIDTH : ℕ
WIDTH = 64

abbrev pub LINE : ℕ
LINE = 65

-- the columns of a place; the bytes of the name that stands before a number there
abbrev pub PLACE-COLUMNS : ℕ
PLACE-COLUMNS = 8

abbrev pub NAME : ℕ
NAME = 5

-- a column of a text: its byte, or a space after it
unfoldable pub byte_or_space : List ℕ → ℕ → ℕ
byte_or_space t i = if ltb i (length t) then get_or t i 0 else 32

-- a column before the last of a number: a space where nothing is left of the number
unfoldable pub digit_or_space : ℕ → ℕ
digit_or_space left = if eqb left 0 then 32 else 48 + left % 10

-- a name and a number that have room in the columns of a place
abbrev pub Named : List ℕ → ℕ → Type 0
Named name n = (length name ≡ NAME) × (n < 100)

-- how many lines from the slot `from` on have room in so many bytes
unfoldable pub lines_fit : ℕ → ℕ → ℕ → ℕ
lines_fit rows from room = if leb (rows - from) (room / LINE) then rows - from else room / LINE

-- so many lines from the slot `from` on are written to the front of `out`, r bytes; what stood after them stays
pub record WritesLines (t : List ℕ) (from : ℕ) (out after : List ℕ) (r : ℕ) : Type 0 where
  pub count : r ≡ LINE * lines_fit (rows_in t) from (length out)
  pub lines : after ≡ lines_from t from (lines_fit (rows_in t) from (length out)) ++ drop r out
