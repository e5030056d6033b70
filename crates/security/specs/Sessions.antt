-- Sessions: an accepted opening, then accepted calls. Every statement of this crate is about the states that sessions reach.
use Rattle.std.specs.Prelude.{ℕ, List, [], ◌∷◌, map, true, ◌≡◌, if◌then◌else◌}
use Rattle.rows.specs.Lists.{first_with, member}
use Rattle.rows.specs.Codes.{in_clist}
use Rattle.rows.specs.Tables.{State, row_of, numbers}
use Rattle.rows.specs.Sound.{sound}
use Rattle.rows.specs.Layout.{right_lengths}
use Rattle.calls.specs.declared.Call.{Call}
use Rattle.calls.specs.declared.Call.TheVariants.{Go, Hold, Register, Drop, Port, Close, Ask, Fetch, Revoke, Comes, Chain, ComesAll}
use Rattle.calls.specs.Answers.{refusal_of}
use Rattle.calls.specs.Rules.{asked_of}
use Rattle.text.specs.declared.Reading.{Reading}
use Rattle.text.specs.declared.Reading.TheVariants.{Asks, Crowded, Refused}
use Rattle.text.specs.CallLines.{reading_of}
use Rattle.text.specs.Opening.{Form, opens, lines_of, opening_of}
use Rattle.text.specs.Entry.{open_entry, call_on, state_opened}
use Rattle.history.specs.Reading.{accepts, number_answered}
use Rattle.history.specs.Demand3.{lent_after, replies_to, state_in}

-- ---- rows and requests by their numbers
abbrev pub IsRow : State → ℕ → Type 0
IsRow st n = member n (numbers st.rows) ≡ true

abbrev pub IsOpen : State → ℕ → Type 0
IsOpen st q = member q (map (λ v. v.number) st.requests) ≡ true

-- row n is in the c-list of process p
abbrev pub Has : State → ℕ → ℕ → Type 0
Has st p n = (row_of st.rows n).place ≡ in_clist p

-- ---- a call that is accepted: a line asks for it, the answer is no refusal, and the line leaves st'
pub record Step (st : State) (c : Call) (st' : State) : Type 0 where
  pub line : List ℕ
  pub reads : reading_of line ≡ Asks c
  pub accepted : refusal_of (call_on st line).answer ≡ 0
  pub leaves : (call_on st line).after ≡ st'

-- ---- who fetched: no field of the tables says who has borrowed, it is whoever fetched
pub record Fetcher : Type 0 where
  pub request : ℕ
  pub process : ℕ

-- newest first
abbrev pub Log : Type 0
Log = List Fetcher

-- the log after a call: `fetch v` by p fetches the request that is open on the port of v
unfoldable pub logged : State → Call → Log → Log
logged st (Go p e) log = log
logged st (Hold p s) log = log
logged st (Register p e) log = log
logged st (Drop p e) log = log
logged st (Port p e) log = log
logged st (Close p c) log = log
logged st (Ask p c is) log = log
logged st (Fetch p v) log = record { request = (asked_of st v).number; process = p } ∷ log
logged st (Call.Answer p v served) log = log
logged st (Revoke p q) log = log
logged st (Comes e q) log = log
logged st (Chain e) log = log
logged st (ComesAll es qs) log = log

unfoldable pub nobody : Fetcher
nobody = record { request = 0; process = 0 }

-- the process that fetched request q, 0 for none
unfoldable pub fetcher_of : Log → ℕ → ℕ
fetcher_of log q = (first_with (λ x. x.request) nobody log q).process

-- ---- a session that opened with the forms fs: the fetches so far, and the state now.
-- A refused line leaves the state as it was, so that these are the states after any lines (proofs/Entries.antt).
pub data Session (fs : List Form) : Log → State → Type 0 where
  opened : (text : List ℕ) (rest : List (List ℕ)) → opening_of (lines_of text) ≡ opens fs rest → Session fs [] (state_opened fs)
  called : (log : Log) (st st' : State) (c : Call) → Session fs log st → Step st c st' → Session fs (logged st c log) st'

-- st' is left by further accepted calls
pub data Later (st : State) : State → Type 0 where
  now : Later st st
  after : (st' st'' : State) (c : Call) → Later st st' → Step st' c st'' → Later st st''

-- of every accepted call on sound tables; the tables of sessions are sound
abbrev pub EveryStep : (State → Call → State → Type 0) → Type 0
EveryStep P = (st st' : State) (c : Call) → sound st ≡ true → Step st c st' → P st c st'

abbrev pub EverySession : (List Form → Log → State → Type 0) → Type 0
EverySession P = (fs : List Form) (log : Log) (st : State) → Session fs log st → P fs log st

-- ---- the log by the history: it notes of each accepted `(p fetch v)` the request answered, and reads no table
unfoldable pub note_fetch_call : Call → ℕ → Log → Log
note_fetch_call (Go p e) q log = log
note_fetch_call (Hold p s) q log = log
note_fetch_call (Register p e) q log = log
note_fetch_call (Drop p e) q log = log
note_fetch_call (Port p e) q log = log
note_fetch_call (Close p c) q log = log
note_fetch_call (Ask p c is) q log = log
note_fetch_call (Fetch p v) q log = record { request = q; process = p } ∷ log
note_fetch_call (Call.Answer p v served) q log = log
note_fetch_call (Revoke p q') q log = log
note_fetch_call (Comes e q') q log = log
note_fetch_call (Chain e) q log = log
note_fetch_call (ComesAll es qs) q log = log

unfoldable pub note_fetch_reading : Reading → ℕ → Log → Log
note_fetch_reading (Asks c) q log = note_fetch_call c q log
note_fetch_reading (Crowded p) q log = log
note_fetch_reading (Refused k) q log = log

unfoldable pub note_fetch : Log → List ℕ → List ℕ → Log
note_fetch log line reply = if accepts reply then note_fetch_reading (reading_of line) (number_answered reply) log else log

unfoldable pub fetches_after : Log → List (List ℕ) → List (List ℕ) → Log
fetches_after log [] replies = log
fetches_after log (l ∷ ls) [] = log
fetches_after log (l ∷ ls) (r ∷ rs) = fetches_after (note_fetch log l r) ls rs

-- ---- sessions are what the entry points do with any lines after an accepted opening
pub record Reached (text : List ℕ) (log : Log) (st : State) : Type 0 where
  pub forms : List Form
  pub rest : List (List ℕ)
  pub reads : opening_of (lines_of text) ≡ opens forms rest
  pub session : Session forms log st

pub record Reaches (t p : List ℕ) (st : State) : Type 0 where
  pub text : List ℕ
  pub lines : List (List ℕ)
  pub accepted : accepts (open_entry t p text).reply ≡ true
  pub leaves : state_in (lent_after (open_entry t p text) lines) ≡ st

pub record Entries : Type 0 where
  -- after any lines the state is one of a session, and who fetched is what the history notes
  pub reached : (t p text : List ℕ) → accepts (open_entry t p text).reply ≡ true → (lines : List (List ℕ)) →
      let opened = open_entry t p text in
      Reached text (fetches_after [] lines (replies_to opened lines)) (state_in (lent_after opened lines))
  -- and every session's state is left by some text and lines
  pub reaches : (t p : List ℕ) → right_lengths t p ≡ true → (fs : List Form) (log : Log) (st : State) → Session fs log st → Reaches t p st
