-- Every theorem that docs/ASSURANCE.md names of history and of what is below it, each with its type, those of demand 3 and of kept soundness too.
-- `promises` (proofs/Promises.antt) proves all of them: if one is dropped or weakened where it is proved, this crate is not proved. The security theorems have such a record in security, the fed session in feed.
use Rattle.std.specs.Prelude.{ℕ, suc, ◌+◌, ◌*◌, ◌-◌, ◌≤◌, Bool, true, false, ◌&&◌, ◌||◌, List, [], ◌∷◌, ◌++◌, map, ◌↔◌, ◌≡◌, eqb, leb, drop, if◌then◌else◌}
use Rattle.rows.specs.declared.Row.{Row}
use Rattle.rows.specs.Lists.{filter, any, all, each, rises, member, some}
use Rattle.rows.specs.Limits.{greatest_number}
use Rattle.rows.specs.Codes.{is_server, is_end, in_clist, is_clist, is_system, is_node, within}
use Rattle.rows.specs.Tables.{State, empty, row_of, numbers, sources, reaches, marked}
use Rattle.rows.specs.Sound.{sound}
use Rattle.rows.specs.Layout.{words_of, records_of, state_of, right_lengths, sound_words, cleared_tables, cleared_processes}
use Rattle.calls.specs.declared.Sixteen.{Sixteen}
use Rattle.calls.specs.declared.Call.{Call}
use Rattle.calls.specs.declared.Call.TheVariants.{Revoke, Comes, Chain, ComesAll}
use Rattle.calls.specs.declared.Answer.{Answer}
use Rattle.closing.specs.Closing.{close_request, close_port}
use Rattle.closing.specs.Steps.{close_request_by_steps, close_port_by_steps}
use Rattle.text.specs.declared.Reading.TheVariants.{Asks}
use Rattle.text.specs.Patterns.{is_digit, run, digits}
use Rattle.text.specs.CallLines.{reading_of}
use Rattle.text.specs.Answers.{ok_text, no_text, printed}
use Rattle.text.specs.Opening.{Form, opens, lines_of, opening_of}
use Rattle.text.specs.ReadBack.{pairs_of, call_text, InRange, answered_by, numbers_in, saying, answer_in_range}
use Rattle.text.specs.Entry.{Replied, open_entry, call_entry, call_on}
use Rattle.text.specs.Session.{session}
use Rattle.history.specs.History.{History}
use Rattle.history.specs.Notes.{loan_of, stands, is_closed}
use Rattle.history.specs.Chains.{a_request, a_port, IsPort, AskedOver, Gone, Stands, ComesFrom, HasOnLoan}
use Rattle.history.specs.Reading.{begun, accepts, note_line, history_after}
use Rattle.history.specs.Demand3.{Demand3, lent_after, replies_to, state_in}
use Rattle.history.specs.FirstChains.{FirstChain}
use Rattle.history.specs.ComesTold.{comes_told, IsOpen, RightOf}
use Rattle.history.specs.Kept.{Kept, joined}

-- ---- a session
-- (rule P5) an opening on words of any content, then lines, each lent the words that the last one left
abbrev pub after_lines : List ℕ → List ℕ → List ℕ → List (List ℕ) → Replied
after_lines t p text lines = lent_after (open_entry t p text) lines

-- (rules P5, H1) its history, of the text, the lines and the answers alone
abbrev pub told_by : List ℕ → List ℕ → List ℕ → List (List ℕ) → History
told_by t p text lines = history_after (begun text) lines (replies_to (open_entry t p text) lines)

-- (rule P5) one line more
abbrev pub after_line : Replied → List ℕ → Replied
after_line w line = call_entry w.tables w.processes line

-- (rule P5) the rows in the tables
abbrev pub rows_lent : Replied → List Row
rows_lent w = (state_in w).rows

-- (rule P6) the ends of a port, newest first
abbrev pub port_ends : Replied → ℕ → List Row
port_ends w c = filter (λ r. is_end r.kind && eqb r.object c) (rows_lent w)

-- (rule P5) the text is accepted
abbrev pub Accepted : List ℕ → List ℕ → List ℕ → Type 0
Accepted t p text = accepts (open_entry t p text).reply ≡ true

pub record Promises : Type 0 where
  -- (rules P5, P6, P7) the tables of a session by its history: one theorem; then what it says, written out
  pub demand3 : Demand3
  -- (rule P5) the rows in the tables are exactly those of the history that stand
  pub rows-exactly : (t p text : List ℕ) → Accepted t p text → (lines : List (List ℕ)) (n : ℕ)
      → (member n (numbers (rows_lent (after_lines t p text lines))) ≡ true) ↔ Stands (told_by t p text lines) n
  -- (rule P6) each port that is not closed has two ends, the server and the client, each with one process or the system
  pub two_ends : (t p text : List ℕ) → Accepted t p text → (lines : List (List ℕ)) (c : ℕ) →
      let h = told_by t p text lines in
      let ends = port_ends (after_lines t p text lines) c in
      IsPort h c → (Gone h (a_port c) → ⊥)
      → (map (λ r. r.number) ends ≡ suc c ∷ c ∷ []) × (map (λ r. is_server r.kind) ends ≡ true ∷ false ∷ [])
      × (all (λ r. is_clist r.place || is_system r.place) ends ≡ true)
  -- (rules H4, H5) what the notes compute is what the words mean
  pub standing : (t p text : List ℕ) → Accepted t p text → (lines : List (List ℕ)) (n : ℕ)
      → (stands (told_by t p text lines) n ≡ true) ↔ Stands (told_by t p text lines) n
  pub closed : (t p text : List ℕ) → Accepted t p text → (lines : List (List ℕ)) (q c : ℕ) →
      let h = told_by t p text lines in
      AskedOver h q c → (is_closed h (loan_of h.requests q) ≡ true) ↔ Gone h (a_request q)
  -- (rule P7) an accepted revoke removes exactly what came from the request, and makes nothing
  pub revoked-exactly : (t p text : List ℕ) → Accepted t p text → (lines : List (List ℕ)) (line : List ℕ) (r q n : ℕ) →
      let w = after_lines t p text lines in
      reading_of line ≡ Asks (Revoke r q) → accepts (after_line w line).reply ≡ true → member n (numbers (rows_lent w)) ≡ true
      → (member n (numbers (rows_lent (after_line w line))) ≡ true → ⊥) ↔ ComesFrom (told_by t p text lines) q n
  pub revoked-nothing-new : (t p text : List ℕ) → Accepted t p text → (lines : List (List ℕ)) (line : List ℕ) (r q n : ℕ) →
      let w = after_lines t p text lines in
      reading_of line ≡ Asks (Revoke r q) → accepts (after_line w line).reply ≡ true
      → member n (numbers (rows_lent (after_line w line))) ≡ true → member n (numbers (rows_lent w)) ≡ true
  -- (rule P7) an end that stands after it is with the lender of the oldest request that had it on loan and is closed by it
  pub revoked-returned : (t p text : List ℕ) → Accepted t p text → (lines : List (List ℕ)) (line : List ℕ) (r q e v : ℕ) →
      let w = after_lines t p text lines in
      let h = told_by t p text lines in
      let h' = note_line h line (after_line w line).reply in
      reading_of line ≡ Asks (Revoke r q) → accepts (after_line w line).reply ≡ true
      → Stands h' e → HasOnLoan h v e → Gone h' (a_request v) → ((u : ℕ) → HasOnLoan h u e → Gone h' (a_request u) → v ≤ u)
      → (row_of (rows_lent (after_line w line)) e).place ≡ in_clist (loan_of h.requests v).lender
  -- (rules P1, P2, P3, P4, P12) kept soundness, and what `session` prints; then what that says, written out
  pub kept : Kept
  -- (rules P1, P2, P3) sound tables: after an accepted opening, after every call on sound tables, after every list of lines; no such call answers 1
  pub opened-sound : (t p text : List ℕ) → Accepted t p text → sound_words (open_entry t p text).tables (open_entry t p text).processes ≡ true
  pub called-sound : (t p line : List ℕ) → sound_words t p ≡ true → sound_words (call_entry t p line).tables (call_entry t p line).processes ≡ true
  pub session-sound : (t p text : List ℕ) → Accepted t p text → (lines : List (List ℕ)) →
      let w = after_lines t p text lines in
      sound_words w.tables w.processes ≡ true
  pub never-one : (t p line : List ℕ) → sound_words t p ≡ true → (call_entry t p line).reply ≡ no_text (1 ∷ []) → ⊥
  -- (rules P4, K5, K7, K8) a refused call leaves every word; a refused opening leaves empty tables, and clears runs of another length
  pub call-refused : (t p line : List ℕ) → accepts (call_entry t p line).reply ≡ false → ((call_entry t p line).tables ≡ t) × ((call_entry t p line).processes ≡ p)
  pub opening-refused : (t p text : List ℕ) → right_lengths t p ≡ true → accepts (open_entry t p text).reply ≡ false
      → ((open_entry t p text).tables ≡ words_of empty) × ((open_entry t p text).processes ≡ records_of empty.processes)
  pub opening-misfit : (t p text : List ℕ) → right_lengths t p ≡ false
      → ((open_entry t p text).reply ≡ no_text (1 ∷ 0 ∷ [])) × ((open_entry t p text).tables ≡ cleared_tables t) × ((open_entry t p text).processes ≡ cleared_processes p)
  -- (rule P12) what `session` prints is what the entry points reply, to the opening and to each line after it
  pub session-replies : (t p input : List ℕ) → right_lengths t p ≡ true → (fs : List Form) (lines : List (List ℕ)) → opening_of (lines_of input) ≡ opens fs lines
      → session input ≡ (open_entry t p input).reply ++ joined (replies_to (open_entry t p input) lines)
  -- (rule W10) a sound state is read back from its words, which are sound words; sound words are those of the state read from them
  pub state-words : (st : State) → sound st ≡ true → state_of (words_of st) (records_of st.processes) ≡ st
  pub sound-words : (st : State) → sound st ≡ true → sound_words (words_of st) (records_of st.processes) ≡ true
  pub words-state : (t p : List ℕ) → sound_words t p ≡ true → (words_of (state_of t p) ≡ t) × (records_of (state_of t p).processes ≡ p)
  -- (rule P11) closing in one pass is closing round after round
  pub close-request-steps : (st : State) → sound st ≡ true → (q : ℕ) → some q ≡ true → close_request_by_steps q st ≡ close_request q st
  pub close-port-steps : (st : State) → sound st ≡ true → (c : ℕ) → close_port_by_steps c st ≡ close_port c st
  -- (rules C1, C2) the one pass of marking is `reaches`, row by row; where sources are older rows it marks the seeds and, with a source of a row,
  -- that row; and nothing else
  pub marked-reaches : (f : Row → Bool) (rs : List Row) → rises (λ r. r.number) rs ≡ true → (e : ℕ) → member e (marked f rs) ≡ reaches f rs e
  pub marked-closed : (f : Row → Bool) (rs : List Row) → rises (λ r. r.number) rs ≡ true → each (λ r rs. all (λ s. member s (numbers rs)) (sources r)) rs ≡ true
      → (n : ℕ) → member n (numbers rs) ≡ true → member n (marked f rs) ≡ f (row_of rs n) || any (λ s. member s (marked f rs)) (sources (row_of rs n))
  pub marked-least : (f : Row → Bool) (P : ℕ → Bool) (rs : List Row) → rises (λ r. r.number) rs ≡ true
      → ((n : ℕ) → member n (numbers rs) ≡ true → f (row_of rs n) || any P (sources (row_of rs n)) ≡ true → P n ≡ true)
      → (n : ℕ) → member n (marked f rs) ≡ true → P n ≡ true
  -- (rule P8) a row in a node of sound tables is there after every call line
  pub nodes-never-vanish : (st : State) → sound st ≡ true → (n : ℕ) → is_node (row_of st.rows n).place ≡ true → (line : List ℕ)
      → member n (numbers (call_on st line).after.rows) ≡ true
  -- (rule P9) the row that a copy was made from stands, and has every right of the copy
  pub rights-never-grow : (t p text : List ℕ) → accepts (open_entry t p text).reply ≡ true → (lines : List (List ℕ)) (n : ℕ) →
      let rows = (state_in (lent_after (open_entry t p text) lines)).rows in
      member n (numbers rows) ≡ true → is_end (row_of rows n).kind ≡ false → some (row_of rows n).source ≡ true
      → (member (row_of rows n).source (numbers rows) ≡ true) × (within (row_of rows n).rights (row_of rows (row_of rows n).source).rights ≡ true)
  -- (rule P31) what an accepted `chain` answers is the first chain of the row by the history; rights never grow along it
  pub chain-told : (t p text : List ℕ) → Accepted t p text → (lines : List (List ℕ)) (line : List ℕ) (e : ℕ) →
      let w = after_lines t p text lines in
      reading_of line ≡ Asks (Chain e) → accepts (after_line w line).reply ≡ true
      → FirstChain (told_by t p text lines) (rows_lent w) e (numbers_in (answered_by (after_line w line).reply).values)
  -- (rules P31, chain-7) and it is accepted for exactly the rows that stand
  pub chain-accepted : (t p text : List ℕ) → Accepted t p text → (lines : List (List ℕ)) (line : List ℕ) (e : ℕ) →
      let w = after_lines t p text lines in
      reading_of line ≡ Asks (Chain e) → (accepts (after_line w line).reply ≡ true) ↔ Stands (told_by t p text lines) e
  -- (rule P32) of each pair a comesall answers, in its place, what the line `(comes e q)` is answered; no word changes
  pub comes-all-told : (t p line : List ℕ) (es qs : Sixteen) → sound_words t p ≡ true → reading_of line ≡ Asks (ComesAll es qs)
      → call_entry t p line ≡ record { reply = ok_text (map (comes_told t p) (pairs_of es qs)); tables = t; processes = p }
  -- (rule P33) comes is accepted for exactly the rows that stand and the requests that are open, and answers 1 exactly if the row comes from the request
  pub comes-accepted : (t p text : List ℕ) → Accepted t p text → (lines : List (List ℕ)) (line : List ℕ) (e q : ℕ) →
      let w = after_lines t p text lines in
      let h = told_by t p text lines in
      reading_of line ≡ Asks (Comes e q) → (accepts (after_line w line).reply ≡ true) ↔ (Stands h e × IsOpen h q)
  pub comes-told : (t p text : List ℕ) → Accepted t p text → (lines : List (List ℕ)) (line : List ℕ) (e q : ℕ) →
      let w = after_lines t p text lines in
      reading_of line ≡ Asks (Comes e q) → accepts (after_line w line).reply ≡ true
      → RightOf (told_by t p text lines) q e (answered_by (after_line w line).reply).values
  -- (rule P10) digits are worth their value, with no bound on it, up to 4,294,967,295, which stands for all above it
  pub never-wrapped : (s : List ℕ) (i : ℕ) →
      let n = (run is_digit (λ v b. v * 10 + (b - 48)) 0 i (drop i s)).value in
      (digits s i).value ≡ (if leb n (suc greatest_number) then n else suc greatest_number)
  -- (rule P28) every call whose numbers are in range can be written as a line, and that line asks for it
  pub call-read : (c : Call) → InRange c → reading_of (call_text c) ≡ Asks c
  -- (rule P29) the text of an answer tells its refusal, or its values
  pub answer-read : (a : Answer) → answer_in_range a ≡ true → answered_by (printed a) ≡ saying a
