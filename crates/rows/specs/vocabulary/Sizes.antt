-- Sizes and columns of the lent words, named in contracts as in code (src/layout.rt, src/codes.rt; an underscore there is a hyphen here), and that they are those of the definitions.
use Rattle.std.specs.Prelude.{◌≡◌, ℕ, suc, ◌*◌, List, length, refl}
use Rattle.rows.specs.Limits.{processes, greatest_number, row_slots, request_slots, most_items}
use Rattle.rows.specs.Layout.{row_columns, request_columns, requests_at, next_at, tables_length, processes_length}

-- ---- slots, processes, items; numbers; columns of rows and of requests
abbrev pub ROWS : ℕ
ROWS = 1024

abbrev pub REQUESTS : ℕ
REQUESTS = 128

abbrev pub PROCESSES : ℕ
PROCESSES = 64

abbrev pub ITEMS : ℕ
ITEMS = 4

-- the greatest number of a row or a request, and the greatest next number
abbrev pub LAST-NUMBER : ℕ
LAST-NUMBER = 4294967294

abbrev pub LAST-NEXT : ℕ
LAST-NEXT = suc LAST-NUMBER

abbrev pub ROW-COLUMNS : ℕ
ROW-COLUMNS = 10

abbrev pub REQUEST-COLUMNS : ℕ
REQUEST-COLUMNS = 8

-- ---- where columns start
abbrev pub SOURCE : ℕ
SOURCE = 6144

abbrev pub VIA : ℕ
VIA = 7168

abbrev pub DEPTH : ℕ
DEPTH = 8192

abbrev pub REQUEST : ℕ
REQUEST = 9216

abbrev pub Q-NUMBER : ℕ
Q-NUMBER = 10240

abbrev pub NEXT : ℕ
NEXT = 11264

-- ---- the lengths of the two runs
abbrev pub TABLES : ℕ
TABLES = 11265

abbrev pub RECORDS : ℕ
RECORDS = 192

-- the words have the length of the tables; of the process records
abbrev pub IsTables : List ℕ → Type 0
IsTables t = length t ≡ TABLES

abbrev pub IsRecords : List ℕ → Type 0
IsRecords p = length p ≡ RECORDS

-- ---- they are those of the definitions
pub record SizesMeant : Type 0 where
  pub rows : ROWS ≡ row_slots
  pub requests : REQUESTS ≡ request_slots
  pub processes : PROCESSES ≡ processes
  pub items : ITEMS ≡ most_items
  pub last-number : LAST-NUMBER ≡ greatest_number
  pub row-columns : ROW-COLUMNS ≡ row_columns
  pub request-columns : REQUEST-COLUMNS ≡ request_columns
  pub source : SOURCE ≡ 6 * row_slots
  pub via : VIA ≡ 7 * row_slots
  pub depth : DEPTH ≡ 8 * row_slots
  pub request : REQUEST ≡ 9 * row_slots
  pub first-request : Q-NUMBER ≡ requests_at
  pub next : NEXT ≡ next_at
  pub tables : TABLES ≡ tables_length
  pub records : RECORDS ≡ processes_length

pub sizes-meant : SizesMeant
unfolding processes greatest_number row_slots request_slots most_items row_columns request_columns requests_at next_at tables_length processes_length
sizes-meant =
    record {
      rows = refl;
      requests = refl;
      processes = refl;
      items = refl;
      last-number = refl;
      row-columns = refl;
      request-columns = refl;
      source = refl;
      via = refl;
      depth = refl;
      request = refl;
      first-request = refl;
      next = refl;
      tables = refl;
      records = refl;
    }
