-- (rule P27) Who has each row, by the history: told from the text, the lines and their answers alone, which now notes `fetch` too.
-- A row is at its home: in the node that it was written into, or with the process that it was made for. A row on loan is with
-- whoever fetched the newest request that has it on loan, and with the system until that is fetched.
-- Ruled out: a kernel whose answers are all right, and that keeps a row in another c-list than these answers say.
use Rattle.std.specs.Prelude.{ℕ, suc, true, ◌&&◌, List, [], ◌∷◌, ◌≡◌, if◌then◌else◌}
use Rattle.rows.specs.Lists.{first_with, some}
use Rattle.rows.specs.Codes.{in_node, in_clist, with_system}
use Rattle.rows.specs.Tables.{row_of}
use Rattle.calls.specs.declared.Item.{Item}
use Rattle.calls.specs.declared.Call.{Call}
use Rattle.calls.specs.declared.Call.TheVariants.{Go, Hold, Register, Drop, Port, Close, Ask, Fetch, Revoke, Comes, Chain, ComesAll}
use Rattle.text.specs.declared.Entry.{Entry}
use Rattle.text.specs.declared.Reading.{Reading}
use Rattle.text.specs.declared.Reading.TheVariants.{Asks, Crowded, Refused}
use Rattle.text.specs.CallLines.{reading_of}
use Rattle.text.specs.Opening.{Form, node_form, process_form, Opening, opens, refused_at, lines_of, opening_of, prime_of}
use Rattle.text.specs.Entry.{open_entry}
use Rattle.history.specs.History.{OnLoan, History}
use Rattle.history.specs.Notes.{noted_of, stands, last_go, copied}
use Rattle.history.specs.Reading.{entry_count, begun, accepts, number_answered, items_named, note_line, history_after}
use Rattle.history.specs.Demand3.{lent_after, replies_to, state_in, InTables}
use Rattle.security.specs.Sessions.{Log, fetcher_of, fetches_after}

-- ---- what is noted of a row: what it names (a manager, a node, a port), and its home, a place
pub record Homed : Type 0 where
  pub number : ℕ
  pub object : ℕ
  pub home : ℕ

-- newest first
abbrev pub Homes : Type 0
Homes = List Homed

unfoldable pub nowhere : Homed
nowhere = record { number = 0; object = 0; home = 0 }

unfoldable pub homed_of : Homes → ℕ → Homed
homed_of hs n = first_with (λ x. x.number) nowhere hs n

abbrev pub with_home : ℕ → ℕ → ℕ → Homes → Homes
with_home n object home hs = record { number = n; object = object; home = home } ∷ hs

-- ---- from the text
unfoldable pub entry_homes : ℕ → ℕ → List Entry → Homes → Homes
entry_homes n node [] hs = hs
entry_homes n node (e ∷ es) hs = entry_homes (suc n) node es (with_home n e.object (in_node node) hs)

-- the forms newest first
unfoldable pub form_homes : List Form → Homes
form_homes [] = []
form_homes (node_form n es ∷ fs) = entry_homes (suc (entry_count fs)) n es (form_homes fs)
form_homes (process_form p n ∷ fs) = form_homes fs

unfoldable pub forms_in : Opening → List Form
forms_in (opens fs rest) = fs
forms_in (refused_at k n) = []

unfoldable pub forms_of : List ℕ → List Form
forms_of text = forms_in (opening_of (lines_of text))

-- ---- from the lines
-- the node that p is in: that of the row that it went through last, if that row stands, else its prime node
unfoldable pub node_now : List Form → History → Homes → ℕ → ℕ
node_now fs h hs p = let e = last_go h.went p in if some e && stands h e then (homed_of hs e).object else prime_of fs p

-- the copies of items, from number n on: they are on loan until they go
unfoldable pub copy_homes : ℕ → List Item → Homes → Homes
copy_homes n [] hs = hs
copy_homes n (i ∷ is) hs = copy_homes (suc n) is (with_home n (homed_of hs i.row).object with_system hs)

-- h before the call
unfoldable pub note_homes : List Form → History → Call → ℕ → Homes → Homes
note_homes fs h (Go p e) n hs = hs
note_homes fs h (Hold p s) n hs = with_home n (homed_of hs s).object (in_clist p) hs
note_homes fs h (Register p e) n hs = with_home n (homed_of hs e).object (in_node (node_now fs h hs p)) hs
note_homes fs h (Drop p e) n hs = hs
-- the client end is the caller's, the server end the manager's
note_homes fs h (Port p e) n hs = with_home (suc n) n (in_clist (homed_of hs e).object) (with_home n n (in_clist p) hs)
note_homes fs h (Close p c) n hs = hs
note_homes fs h (Ask p c is) n hs = copy_homes (suc n) (copied h.rows (items_named is)) hs
note_homes fs h (Fetch p v) n hs = hs
note_homes fs h (Call.Answer p v served) n hs = hs
note_homes fs h (Revoke p q) n hs = hs
note_homes fs h (Comes e q) n hs = hs
note_homes fs h (Chain e) n hs = hs
note_homes fs h (ComesAll es qs) n hs = hs

unfoldable pub reading_homes : List Form → History → Reading → ℕ → Homes → Homes
reading_homes fs h (Asks c) n hs = note_homes fs h c n hs
reading_homes fs h (Crowded p) n hs = hs
reading_homes fs h (Refused k) n hs = hs

unfoldable pub line_homes : List Form → History → List ℕ → List ℕ → Homes → Homes
line_homes fs h line reply hs = if accepts reply then reading_homes fs h (reading_of line) (number_answered reply) hs else hs

-- after lines and their answers
unfoldable pub homes_after : List Form → History → Homes → List (List ℕ) → List (List ℕ) → Homes
homes_after fs h hs [] replies = hs
homes_after fs h hs (l ∷ ls) [] = hs
homes_after fs h hs (l ∷ ls) (r ∷ rs) = homes_after fs (note_line h l r) (line_homes fs h l r hs) ls rs

-- ---- where a row is
unfoldable pub no_loan_of : OnLoan
no_loan_of = record { request = 0; lent = 0 }

-- the newest request that has row n on loan, 0 for none: of a copy the one that it bears
unfoldable pub lent_by : History → ℕ → ℕ
lent_by h n =
    let q = (noted_of h.rows n).request in
    if some q then q else (first_with (λ o. o.lent) no_loan_of h.loans n).request

-- where that is which request q has on loan
unfoldable pub with_fetcher : Log → ℕ → ℕ
with_fetcher log q = let p = fetcher_of log q in if some p then in_clist p else with_system

unfoldable pub place_said : History → Log → Homes → ℕ → ℕ
place_said h log hs n = let q = lent_by h n in if some q then with_fetcher log q else (homed_of hs n).home

-- ==== who has what, of every row, after any lines
unfoldable pub WhoHasWhat : Type 0
WhoHasWhat =
    (t p text : List ℕ) → accepts (open_entry t p text).reply ≡ true → (lines : List (List ℕ)) →
    let opened = open_entry t p text in
    let replies = replies_to opened lines in
    let st = state_in (lent_after opened lines) in
    let h = history_after (begun text) lines replies in
    let hs = homes_after (forms_of text) (begun text) (form_homes (forms_of text)) lines replies in
    (n : ℕ) → InTables st n → (row_of st.rows n).place ≡ place_said h (fetches_after [] lines replies) hs n
