-- (rule P18) Revocation is complete and lasting: a number that is gone names nothing ever again, and a new row or request takes a number that was never given.
-- Ruled out: a kernel that uses the numbers of removed rows again; that leaves a removed row's number in a list, as a source, or as the row gone through.
use Rattle.std.specs.Prelude.{ℕ, ◌<◌, ◌≤◌, true, List, ◌≡◌, ◌⊎◌, ◌↔◌}
use Rattle.rows.specs.Lists.{member}
use Rattle.rows.specs.Tables.{State, row_of, request_of, process_at, sources, lists}
use Rattle.rows.specs.Sound.{sound}
use Rattle.calls.specs.declared.Call.{Call}
use Rattle.calls.specs.declared.Answer.TheVariants.{Made}
use Rattle.text.specs.Entry.{call_on}
use Rattle.security.specs.Sessions.{IsRow, IsOpen, Later, EverySession}

-- ---- the places of the tables where a number stands
pub data Named (st : State) (n : ℕ) : Type 0 where
  is_row : IsRow st n → Named st n
  is-request : IsOpen st n → Named st n
  is-source : (m : ℕ) → IsRow st m → member n (sources (row_of st.rows m)) ≡ true → Named st n
  is-borne : (m : ℕ) → IsRow st m → 0 < n → (row_of st.rows m).request ≡ n → Named st n
  is-item : (q : ℕ) → IsOpen st q → lists n (request_of st.requests q) ≡ true → Named st n
  is-port : (q : ℕ) → IsOpen st q → (request_of st.requests q).port ≡ n → Named st n
  is-gone-through : (p : ℕ) → 0 < n → (process_at st.processes p).through ≡ n → Named st n

-- a number that was given, and is no row and no open request now
pub record Spent (st : State) (n : ℕ) : Type 0 where
  pub given : n < st.next
  pub no-row : IsRow st n → ⊥
  pub no-request : IsOpen st n → ⊥

-- it names nothing, now and after any further calls
unfoldable pub Lasting : Type 0
Lasting = EverySession (λ fs log st. (st' : State) → Later st st' → (n : ℕ) → Spent st n → Named st' n → ⊥)

-- ---- the numbers that an accepted call takes
pub record Gives (st : State) (c : Call) (st' : State) : Type 0 where
  -- the next number never falls
  pub never-falls : st.next ≤ st'.next
  -- what is new has just the numbers from the old next number on, up to the new one
  pub exactly : (n : ℕ) → ((st.next ≤ n) × (n < st'.next)) ↔ ((IsRow st' n ⊎ IsOpen st' n) × (IsRow st n ⊎ IsOpen st n → ⊥))

-- the number answered is the old next number, which no row and no request ever had
unfoldable pub Answered : Type 0
Answered = (st : State) (line : List ℕ) (n : ℕ) → sound st ≡ true → (call_on st line).answer ≡ Made n → (n ≡ st.next) × (n < (call_on st line).after.next)
