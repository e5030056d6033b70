-- The history's own reading of the opening text, of call lines and of printed answers. It shares the text's parsers and nothing of the calls.
use Rattle.std.specs.Prelude.{ℕ, zero, suc, ◌+◌, Bool, List, [], ◌∷◌, length, if◌then◌else◌}
use Rattle.rows.specs.Lists.{filter, some}
use Rattle.calls.specs.declared.Item.{Item}
use Rattle.calls.specs.declared.Call.{Call}
use Rattle.calls.specs.declared.Call.TheVariants.{Go, Hold, Register, Drop, Port, Close, Ask, Fetch, Revoke, Comes, Chain, ComesAll}
use Rattle.text.specs.declared.Reading.{Reading}
use Rattle.text.specs.declared.Reading.TheVariants.{Asks, Crowded, Refused}
use Rattle.text.specs.Patterns.{form}
use Rattle.text.specs.CallLines.{reading_of}
use Rattle.text.specs.Opening.{Form, node_form, process_form, Opening, opens, refused_at, lines_of, opening_of}
use Rattle.history.specs.History.{Noted, History}
use Rattle.history.specs.Notes.{loans_settled, note_go, note_hold, note_register, note_port, note_ask, note_drop, note_close, note_revoke, note_end}

-- ---- at first
-- (rules H1, O5) the rows of the text, numbered as there
unfoldable pub entry_count : List Form → ℕ
entry_count [] = 0
entry_count (node_form n es ∷ fs) = entry_count fs + length es
entry_count (process_form p n ∷ fs) = entry_count fs

-- (rule H1) k, k - 1, .. 1
unfoldable pub down_from : ℕ → List ℕ
down_from zero = []
down_from (suc k) = suc k ∷ down_from k

unfoldable pub text_rows : List ℕ → List Noted
text_rows [] = []
text_rows (n ∷ ns) = record { number = n; sources = []; request = 0; port = 0 } ∷ text_rows ns

unfoldable pub begun_with : List ℕ → History
begun_with ns = record { text = ns; rows = text_rows ns; requests = []; dropped = []; closed_ports = []; closed_requests = []; went = []; loans = [] }

unfoldable pub begun_by : Opening → History
begun_by (opens fs rest) = begun_with (down_from (entry_count fs))
begun_by (refused_at k n) = begun_with []

unfoldable pub begun : List ℕ → History
begun text = begun_by (opening_of (lines_of text))

-- ---- an answer
-- (rules H1, K4) `(ok ..)` accepts; the first number is what is noted
unfoldable pub accepts : List ℕ → Bool
accepts reply = (form reply 0 "(ok ").good

unfoldable pub number_answered : List ℕ → ℕ
number_answered reply = (form reply 0 "(ok #").c

-- (rule H2) the items of an ask
unfoldable pub items_named : List Item → List Item
items_named is = filter (λ i. some i.row) is

-- (rules H1, H2) what an accepted call adds; refused lines, `fetch`, `comes`, `chain` and `comesall` add nothing
unfoldable pub note_call : Call → ℕ → History → History
note_call (Go p e) n h = note_go p e h
note_call (Hold p s) n h = note_hold p s n h
note_call (Register p e) n h = note_register e n h
note_call (Drop p e) n h = note_drop e h
note_call (Port p e) n h = note_port e n h
note_call (Close p c) n h = note_close c h
note_call (Ask p c is) n h = note_ask p c (items_named is) n h
note_call (Fetch p v) n h = h
note_call (Call.Answer p v served) n h = note_end v h
note_call (Revoke p q) n h = note_revoke q h
note_call (Comes e q) n h = h
note_call (Chain e) n h = h
note_call (ComesAll es qs) n h = h

unfoldable pub note_reading : Reading → ℕ → History → History
note_reading (Asks c) n h = loans_settled (note_call c n h)
note_reading (Crowded p) n h = h
note_reading (Refused k) n h = h

-- (rule H1) the history after a line and its answer
unfoldable pub note_line : History → List ℕ → List ℕ → History
note_line h line reply = if accepts reply then note_reading (reading_of line) (number_answered reply) h else h

-- (rule H1) the history after lines and their answers
unfoldable pub history_after : History → List (List ℕ) → List (List ℕ) → History
history_after h [] replies = h
history_after h (l ∷ ls) [] = h
history_after h (l ∷ ls) (r ∷ rs) = history_after (note_line h l r) ls rs
