-- What holds of the tables and the history after each call.
use Prim.Native.Nat.{ℕ, ◌<◌}
use mathlib.Core.Bool.{Bool, true, ◌&&◌}
use mathlib.Core.List.{List, [], ◌∷◌, ◌++◌, map}
use mathlib.Core.Path.{◌≡◌}
use lib.Dec.{ltb, eqb}
use Rattle.rows.specs.declared.Row.{Row}
use Rattle.rows.specs.declared.Request.{Request}
use Rattle.std.specs.Prelude.{if◌then◌else◌}
use Rattle.rows.specs.Lists.{filter, all, top_of, some, nonzero}
use Rattle.rows.specs.Codes.{is_end}
use Rattle.rows.specs.Tables.{State, row_of, process_at, is_listed, sources, goes_back}
use Rattle.calls.specs.declared.Call.{Call}
use Rattle.calls.specs.declared.Answer.{Answer}
use Rattle.calls.specs.Answers.{Value, num, dash, refusal_of, values_of}
use Rattle.history.specs.History.{Noted, Loan, OnLoan, History}
use Rattle.history.specs.Notes.{standing, stands, open_loans, last_go, loans_settled}
use Rattle.history.specs.Reading.{note_call}
use Rattle.history.proofs.Fit.{Fit}

-- a row of the tables as the history notes it
unfoldable pub view : Row → Noted
view r = record { number = r.number; sources = sources r; request = r.request; port = (if is_end r.kind then r.object else 0) }

-- a request without its items
pub record Open : Type 0 where
  pub number : ℕ
  pub asker : ℕ
  pub port : ℕ

unfoldable pub of_request : Request → Open
of_request v = record { number = v.number; asker = v.asker; port = v.port }

unfoldable pub of_loan : Loan → Open
of_loan v = record { number = v.number; asker = v.lender; port = v.port }

-- what a look-up gives where none is
unfoldable pub no_open : Open
no_open = record { number = 0; asker = 0; port = 0 }

-- the row that p's last go went through, if it stands
unfoldable pub through_now : History → ℕ → ℕ
through_now h p = let e = last_go h.went p in if some e && stands h e then e else 0

-- every number of a list is below n
unfoldable pub below : ℕ → List ℕ → Bool
below n ks = all (λ k. ltb k n) ks

pub record Inv (h : History) (st : State) : Type 0 where
  pub fit : Fit h
  pub rows : map view st.rows ≡ standing h
  pub requests : map of_request st.requests ≡ map of_loan (open_loans h)
  pub through : (p : ℕ) → is_listed st.processes p ≡ true → (process_at st.processes p).through ≡ through_now h p
  pub rows-below : top_of (λ r. r.number) h.rows < st.next
  pub requests-below : top_of (λ v. v.number) h.requests < st.next
  pub dropped-below : below st.next h.dropped ≡ true
  pub ports-below : below st.next h.closed_ports ≡ true
  pub closed-below : below st.next h.closed_requests ≡ true
  pub went-below : (p : ℕ) → last_go h.went p < st.next

-- the ends that a request of the tables lists: they go back when it closes
unfoldable pub ends_listed : List Row → Request → List ℕ
ends_listed rs v = filter (λ e. goes_back (row_of rs e)) (nonzero v.items)

-- newest request first
unfoldable pub loans_in : List Row → List Request → List OnLoan
loans_in rs [] = []
loans_in rs (v ∷ vs) = map (λ e. record { request = v.number; lent = e }) (ends_listed rs v) ++ loans_in rs vs

pub record Lends (h : History) (st : State) : Type 0 where
  pub lends : loans_in st.rows st.requests ≡ h.loans

-- the first value of an answer, 0 for none and for `-`
unfoldable pub first_value : List Value → ℕ
first_value [] = 0
first_value (num n ∷ vs) = n
first_value (dash ∷ vs) = 0

-- what the history is after a call and its answer
unfoldable pub note_answer : History → Call → Answer → History
note_answer h c a = if eqb (refusal_of a) 0 then loans_settled (note_call c (first_value (values_of a)) h) else h
