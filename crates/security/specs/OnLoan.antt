-- (rule P26) What the history has on loan is what its words say (rule H6): a request has an end on loan from its ask on, until the end stands no
-- longer, or it is closed, or an older request that has the end on loan is closed. Line by line, by `Stands` and `Gone` of the history's chains.
-- Ruled out: a history that counts a loan as over because a request closed that had the end on loan no more; one that forgets a loan at another's ask.
use Rattle.std.specs.Prelude.{ℕ, ◌<◌, true, List, [], ◌∷◌, ◌≡◌, ◌⊎◌, ◌↔◌}
use Rattle.rows.specs.Lists.{member}
use Rattle.text.specs.Entry.{open_entry}
use Rattle.history.specs.History.{History}
use Rattle.history.specs.Notes.{loan_of}
use Rattle.history.specs.Reading.{begun, accepts, note_line, history_after}
use Rattle.history.specs.Chains.{a_request, Gone, Stands, HasOnLoan}
use Rattle.history.specs.Demand3.{replies_to}

-- what is said of loans: request q has the end e on loan
abbrev pub Loans : Type 1
Loans = ℕ → ℕ → Type 0

unfoldable pub none_said : Loans
none_said q e = ⊥

-- h before a line, h' after it
-- the line asked request q, and named e among its ends
pub record AskedNow (h h' : History) (q e : ℕ) : Type 0 where
  pub fresh : (loan_of h.requests q).number ≡ q → ⊥
  pub noted : (loan_of h'.requests q).number ≡ q
  pub named : member e (loan_of h'.requests q).ends ≡ true

-- q had e on loan, and has so still
pub record StillOnLoan (h' : History) (L : Loans) (q e : ℕ) : Type 0 where
  pub had : L q e
  pub stands : Stands h' e
  pub is_open : Gone h' (a_request q) → ⊥
  pub no-older : (w : ℕ) → w < q → L w e → Gone h' (a_request w) → ⊥

unfoldable pub said_now : History → History → Loans → Loans
said_now h h' L q e = AskedNow h h' q e ⊎ StillOnLoan h' L q e

-- after lines and their answers
unfoldable pub said_after : History → Loans → List (List ℕ) → List (List ℕ) → Loans
said_after h L [] replies = L
said_after h L (l ∷ ls) [] = L
said_after h L (l ∷ ls) (r ∷ rs) = said_after (note_line h l r) (said_now h (note_line h l r) L) ls rs

-- ==== what the history has on loan is what is said
unfoldable pub OnLoanAsSaid : Type 0
OnLoanAsSaid =
    (t p text : List ℕ) → accepts (open_entry t p text).reply ≡ true → (lines : List (List ℕ)) →
    let replies = replies_to (open_entry t p text) lines in
    (q e : ℕ) → HasOnLoan (history_after (begun text) lines replies) q e ↔ said_after (begun text) none_said lines replies q e
