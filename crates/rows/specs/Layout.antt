-- How the two lent runs of words represent a state (docs/MANUAL.md, chapter 7), and how it is read back.
use Rattle.std.specs.Prelude.{ℕ, zero, suc, ◌+◌, ◌*◌, Bool, ◌&&◌, List, [], ◌∷◌, ◌++◌, length, take, drop, replicate, ◌==◌, nat_lt, slice_index, if◌then◌else◌}
use Rattle.rows.specs.declared.Row.{Row}
use Rattle.rows.specs.declared.Request.{Request}
use Rattle.rows.specs.declared.Process.{Process}
use Rattle.rows.specs.Lists.{pad, laid, slot_with, same_list, some}
use Rattle.rows.specs.Limits.{processes, row_slots, request_slots}
use Rattle.rows.specs.Tables.{State, empty}
use Rattle.rows.specs.Setters.{with_sources}
use Rattle.rows.specs.Sound.{sound}

-- (rule W11) the version of this layout; the words do not hold it
unfoldable pub layout_version : ℕ
layout_version = 1

-- ---- sizes
-- (rules W2, W3) rows stand in ten columns of 1,024 words, requests in eight of 128
unfoldable pub row_columns : ℕ
row_columns = 10

unfoldable pub request_columns : ℕ
request_columns = 8

-- (rules W3, W4) the start of the requests' columns, and the place of the next number, which is the last word
unfoldable pub requests_at : ℕ
requests_at = row_columns * row_slots

unfoldable pub next_at : ℕ
next_at = requests_at + request_columns * request_slots

-- (rules W1, W5) the length of the tables; of the process records, three words each
unfoldable pub tables_length : ℕ
tables_length = suc next_at

unfoldable pub processes_length : ℕ
processes_length = 3 * processes

-- ---- the order of the columns
-- (rules R1, W12) the words of a row, and a row from its words by column: one undoes the other (proofs/LayoutRows.antt)
abbrev pub words_of_row : Row → List ℕ
words_of_row r = r.number ∷ r.kind ∷ r.object ∷ r.operation ∷ r.rights ∷ r.place ∷ r.source ∷ r.via ∷ r.depth ∷ r.request ∷ []

abbrev pub row_from : (ℕ → ℕ) → Row
row_from word =
    record {
      number = word 0;
      kind = word 1;
      object = word 2;
      operation = word 3;
      rights = word 4;
      place = word 5;
      source = word 6;
      via = word 7;
      depth = word 8;
      request = word 9;
    }

-- (rules L3, W12) the same of a request, which has four items
abbrev pub words_of_request : Request → List ℕ
words_of_request v = v.number ∷ v.port ∷ v.asker ∷ v.fetched ∷ v.items

abbrev pub request_from : (ℕ → ℕ) → Request
request_from word =
    record { number = word 0; port = word 1; asker = word 2; fetched = word 3; items = word 4 ∷ word 5 ∷ word 6 ∷ word 7 ∷ [] }

-- ---- state to words
-- (rule W8) the slot, plus 1, of the row numbered n; 0 for none
unfoldable pub row_slot : List Row → ℕ → ℕ
row_slot rs n = slot_with (λ r. r.number) rs n

-- (rule W8) a source as its slot plus 1; none is 0
unfoldable pub source_slot : List Row → ℕ → ℕ
source_slot rs n = if some n then row_slot rs n else 0

-- (rules W8, W9) a row of the state as its words have it, rs the older rows: its sources are slots plus 1, so they change as slots do
unfoldable pub slotted : Row → List Row → Row
slotted r rs = with_sources (source_slot rs r.source) (source_slot rs r.via) r

-- (rule W12) the word in column c of row r, rs the older rows; of request v
unfoldable pub row_word : ℕ → Row → List Row → ℕ
row_word c r rs = slice_index (words_of_row (slotted r rs)) c

unfoldable pub request_word : ℕ → Request → List Request → ℕ
request_word c v vs = slice_index (words_of_request v) c

-- (rules W2, W6, W7) the first c columns of the rows: oldest first, 0 after the last
unfoldable pub row_words : ℕ → List Row → List ℕ
row_words zero rs = []
row_words (suc c) rs = row_words c rs ++ pad 0 row_slots (laid (row_word c) rs)

-- (rules W3, W6, W7) of the requests
unfoldable pub request_words : ℕ → List Request → List ℕ
request_words zero vs = []
request_words (suc c) vs = request_words c vs ++ pad 0 request_slots (laid (request_word c) vs)

-- (rules W4, W10) the tables in words, one form for each state
unfoldable pub words_of : State → List ℕ
words_of st = row_words row_columns st.rows ++ (request_words request_columns st.requests ++ (st.next ∷ []))

-- (rule W5) the process records in words: prime node, active node, row gone through
unfoldable pub records_of : List Process → List ℕ
records_of [] = []
records_of (x ∷ xs) = x.prime ∷ x.active ∷ x.through ∷ records_of xs

-- ---- words to state
-- (rule W6) the slots in use: those before the first whose number is 0
unfoldable pub leading : List ℕ → ℕ
leading [] = 0
leading (w ∷ ws) = if some w then suc (leading ws) else 0

-- (rules W2, W3) the word of a row column, of a request column
unfoldable pub row_field : List ℕ → ℕ → ℕ → ℕ
row_field t c i = slice_index t (c * row_slots + i)

unfoldable pub request_field : List ℕ → ℕ → ℕ → ℕ
request_field t c i = slice_index t (requests_at + (c * request_slots + i))

-- (rule W6) how many rows, how many requests
unfoldable pub rows_in : List ℕ → ℕ
rows_in t = leading (take row_slots t)

unfoldable pub requests_in : List ℕ → ℕ
requests_in t = leading (take request_slots (drop requests_at t))

-- (rule W8) the number of the row at a slot plus 1, of the n slots in use; 0 for none
unfoldable pub number_at : List ℕ → ℕ → ℕ → ℕ
number_at t n zero = 0
number_at t n (suc i) = if nat_lt i n then row_field t 0 i else 0

-- (rules W8, W12) the words of a slot as a row: its sources are slots plus 1
unfoldable pub raw_row : List ℕ → ℕ → Row
raw_row t i = row_from (λ c. row_field t c i)

-- (rule W8) the row of a slot, its sources as numbers
unfoldable pub row_at : List ℕ → ℕ → ℕ → Row
row_at t n i = let r = raw_row t i in with_sources (number_at t n r.source) (number_at t n r.via) r

-- (rule W6) the rows of the first i slots, newest first; the requests
unfoldable pub rows_to : List ℕ → ℕ → ℕ → List Row
rows_to t n zero = []
rows_to t n (suc i) = row_at t n i ∷ rows_to t n i

unfoldable pub request_at : List ℕ → ℕ → Request
request_at t i = request_from (λ c. request_field t c i)

unfoldable pub requests_to : List ℕ → ℕ → List Request
requests_to t zero = []
requests_to t (suc i) = request_at t i ∷ requests_to t i

-- (rule W5) the records in words of any length
unfoldable pub records_in : List ℕ → List Process
records_in [] = []
records_in (a ∷ []) = []
records_in (a ∷ b ∷ []) = []
records_in (a ∷ b ∷ c ∷ ws) = record { prime = a; active = b; through = c } ∷ records_in ws

-- (rule K1) what the two runs say, whatever they hold
unfoldable pub state_of : List ℕ → List ℕ → State
state_of t p =
    record {
      rows = rows_to t (rows_in t) (rows_in t);
      requests = requests_to t (requests_in t);
      processes = records_in p;
      next = slice_index t next_at;
    }

-- ---- sound tables as words
-- (rule W1) both runs have their length
unfoldable pub right_lengths : List ℕ → List ℕ → Bool
right_lengths t p = length t == tables_length && length p == processes_length

-- (rules F9, W7, W8) of the right length, every unused word 0 and every source word the slot of an older row, and sound
unfoldable pub sound_words : List ℕ → List ℕ → Bool
sound_words t p = right_lengths t p && (same_list (words_of (state_of t p)) t && sound (state_of t p))

-- ---- cleared
-- (rule K8) a run of the right length is that of empty tables, a run of another length all 0
unfoldable pub cleared_tables : List ℕ → List ℕ
cleared_tables t = if length t == tables_length then words_of empty else replicate (length t) 0

unfoldable pub cleared_processes : List ℕ → List ℕ
cleared_processes p = replicate (length p) 0
