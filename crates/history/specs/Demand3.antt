-- Demand 3 (docs/MANUAL.md, 10.2): the tables after any list of call lines, by the history of the text, those lines and their answers.
use Rattle.std.specs.Prelude.{ℕ, suc, ◌≤◌, true, ◌&&◌, ◌||◌, List, [], ◌∷◌, ◌≡◌, ◌↔◌, eqb}
use Rattle.rows.specs.declared.Row.{Row}
use Rattle.rows.specs.Lists.{filter, member}
use Rattle.rows.specs.Codes.{is_client, is_server, is_end, in_clist, is_clist, is_system}
use Rattle.rows.specs.Tables.{State, row_of, numbers}
use Rattle.rows.specs.Layout.{state_of}
use Rattle.calls.specs.declared.Call.TheVariants.{Revoke}
use Rattle.text.specs.declared.Reading.TheVariants.{Asks}
use Rattle.text.specs.CallLines.{reading_of}
use Rattle.text.specs.Entry.{Replied, open_entry, call_entry}
use Rattle.history.specs.History.{History}
use Rattle.history.specs.Notes.{loan_of, stands, is_closed}
use Rattle.history.specs.Reading.{begun, accepts, note_line, history_after}
use Rattle.history.specs.Chains.{a_request, a_port, IsPort, AskedOver, Gone, Stands, ComesFrom, HasOnLoan}

-- ---- the calls
-- (rule P5) each line is lent the words that the last one left
unfoldable pub lent_after : Replied → List (List ℕ) → Replied
lent_after w [] = w
lent_after w (l ∷ ls) = lent_after (call_entry w.tables w.processes l) ls

unfoldable pub replies_to : Replied → List (List ℕ) → List (List ℕ)
replies_to w [] = []
replies_to w (l ∷ ls) = let o = call_entry w.tables w.processes l in o.reply ∷ replies_to o ls

unfoldable pub state_in : Replied → State
state_in w = state_of w.tables w.processes

-- (rule P5) a row of number n is in the tables
unfoldable pub InTables : State → ℕ → Type 0
InTables st n = member n (numbers st.rows) ≡ true

-- ---- 1 and 2
-- (rule P6) the ends of port c in the tables, newest first
unfoldable pub ends_of : ℕ → List Row → List Row
ends_of c rs = filter (λ r. is_end r.kind && eqb r.object c) rs

-- (rules P6, L2) exactly two ends, client and server, each with one process or the system
pub record TwoEnds (rs : List Row) (c : ℕ) : Type 0 where
  pub client : Row
  pub server : Row
  pub exactly : ends_of c rs ≡ server ∷ client ∷ []
  pub client_number : client.number ≡ c
  pub client_kind : is_client client.kind ≡ true
  pub client_held : is_clist client.place || is_system client.place ≡ true
  pub server_number : server.number ≡ suc c
  pub server_kind : is_server server.kind ≡ true
  pub server_held : is_clist server.place || is_system server.place ≡ true

-- (rules P5, P6) what holds of the history and the state
pub record Holds (h : History) (st : State) : Type 0 where
  -- (rule P5) the rows in the tables are exactly the rows of the history that stand
  pub exactly : (n : ℕ) → InTables st n ↔ Stands h n
  -- (rule P6) each port that is not closed has its two ends
  pub ports : (c : ℕ) → IsPort h c → (Gone h (a_port c) → ⊥) → TwoEnds st.rows c
  -- (rules H4, H5) what the notes compute is what the words mean
  pub standing : (n : ℕ) → (stands h n ≡ true) ↔ Stands h n
  pub closed : (q c : ℕ) → AskedOver h q c → (is_closed h (loan_of h.requests q) ≡ true) ↔ Gone h (a_request q)

-- ---- 3: after an accepted revoke of q; h, st before it, h', st' after it
-- (rule P7) the rows that vanish are exactly those that came from the request, and none is new
pub record Vanished (h : History) (st st' : State) (q : ℕ) : Type 0 where
  pub exactly : (n : ℕ) → InTables st n → (InTables st' n → ⊥) ↔ ComesFrom h q n
  pub nothing_new : (n : ℕ) → InTables st' n → InTables st n

-- (rule P7) a request that had e on loan and is closed by the call
pub record ClosedWith (h h' : History) (e q : ℕ) : Type 0 where
  pub had_on_loan : HasOnLoan h q e
  pub is_closed : Gone h' (a_request q)

-- (rule P7) an end that still stands is with the lender of the oldest such request
unfoldable pub Returned : History → History → State → Type 0
Returned h h' st' =
    (e q : ℕ) → Stands h' e → ClosedWith h h' e q → ((v : ℕ) → ClosedWith h h' e v → q ≤ v) →
    (row_of st'.rows e).place ≡ in_clist (loan_of h.requests q).lender

unfoldable pub Revoked : History → Replied → List ℕ → ℕ → Type 0
Revoked h w line q =
    let o = call_entry w.tables w.processes line in
    Vanished h (state_in w) (state_in o) q × Returned h (note_line h line o.reply) (state_in o)

-- ---- one claim about the whole list
-- (rules P5, P6, P7) for any words, any accepted text and any list of lines
unfoldable pub Demand3 : Type 0
Demand3 =
    (tables processes text : List ℕ) →
    let opened = open_entry tables processes text in
    accepts opened.reply ≡ true →
    (lines : List (List ℕ)) →
    let w = lent_after opened lines in
    let h = history_after (begun text) lines (replies_to opened lines) in
    Holds h (state_in w)
    × ((line : List ℕ) (p q : ℕ) → reading_of line ≡ Asks (Revoke p q) → accepts (call_entry w.tables w.processes line).reply ≡ true → Revoked h w line q)
