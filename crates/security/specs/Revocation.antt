-- (rules P19, P24) Revocation is never blocked, and room comes back: the asker of an open request may revoke it whatever others did; the oldest loan of an end brings
-- it home; once every request is revoked, in any order, nothing is lent and nothing is with the system.
-- Ruled out: a kernel that refuses a revoke while the borrower has lent the end on, or while tables are full; that loses an end, or keeps it with a borrower.
use Rattle.std.specs.Prelude.{ℕ, ◌≤◌, true, false, not, List, [], ◌∷◌, map, ◌≡◌, length}
use Rattle.rows.specs.Lists.{filter, member}
use Rattle.rows.specs.Codes.{is_client, is_end, is_system}
use Rattle.rows.specs.Tables.{State, row_of, request_of, lists, on_loan, is_lent}
use Rattle.rows.specs.Sound.{sound}
use Rattle.calls.specs.declared.Call.{Call}
use Rattle.calls.specs.declared.Call.TheVariants.{Close, Revoke}
use Rattle.calls.specs.Answers.{refusal_of}
use Rattle.text.specs.declared.Reading.TheVariants.{Asks}
use Rattle.text.specs.CallLines.{reading_of}
use Rattle.text.specs.Entry.{call_on, answered}
use Rattle.security.specs.Sessions.{IsRow, IsOpen, Has, EverySession}
use Rattle.security.specs.Changes.{goes, shuts, takes}
use Rattle.security.specs.Places.{home_of}

-- a call is accepted on the tables st
abbrev pub Accepted : State → Call → Type 0
Accepted st c = refusal_of (answered st (Asks c)).answer ≡ 0

-- ==== never blocked: every line that asks for the revoke of an open request by its asker is accepted, on all sound tables
unfoldable pub NeverBlocked : Type 0
NeverBlocked =
    (st : State) → sound st ≡ true → (q : ℕ) → IsOpen st q → (line : List ℕ) → reading_of line ≡ Asks (Revoke (request_of st.requests q).asker q)
    → refusal_of (call_on st line).answer ≡ 0

-- ==== the oldest open request that lists the end n is revoked: n is at home, on no loan; if n is a client end, whoever has it may close its port
pub record Oldest (st : State) (n q : ℕ) : Type 0 where
  pub is_open : IsOpen st q
  pub listed : lists n (request_of st.requests q) ≡ true
  pub oldest : (w : ℕ) → IsOpen st w → lists n (request_of st.requests w) ≡ true → q ≤ w

pub record ComesHome (st st' : State) (n : ℕ) : Type 0 where
  pub stands : IsRow st' n
  pub home : (row_of st'.rows n).place ≡ home_of st (row_of st.rows n)
  pub off-loan : on_loan st'.requests n ≡ false
  pub may-close : (p : ℕ) → is_client (row_of st.rows n).kind ≡ true → Has st' p n → Accepted st' (Close p n)

unfoldable pub OldestLoanBringsHome : Type 0
OldestLoanBringsHome =
    EverySession (λ fs log st. (n q : ℕ) → IsRow st n → is_end (row_of st.rows n).kind ≡ true → Oldest st n q →
    ComesHome st (answered st (Asks (Revoke (request_of st.requests q).asker q))).after n)

-- ==== room: a call that makes nothing frees just the rows that go and the requests that close
pub record Frees (st : State) (c : Call) (st' : State) : Type 0 where
  pub rows : takes st c ≡ 0 → length st'.rows ≡ length (filter (λ r. not (goes st c r.number)) st.rows)
  pub requests : takes st c ≡ 0 → length st'.requests ≡ length (filter (λ v. not (shuts st c v)) st.requests)

-- ---- calls one after the other, each on the tables that the last one left
unfoldable pub after_calls : State → List Call → State
after_calls st [] = st
after_calls st (c ∷ cs) = after_calls (answered st (Asks c)).after cs

-- the requests qs are revoked in this order, each by its asker
unfoldable pub revoke_each : State → List ℕ → List Call
revoke_each st qs = map (λ q. Revoke (request_of st.requests q).asker q) qs

-- ==== room comes back: after a revoke of every open request, in any order, nothing is lent, nothing is with the system, every end is at home
pub record AllBack (st : State) : Type 0 where
  pub none_open : st.requests ≡ []
  pub none_lent : (n : ℕ) → is_lent st n ≡ false
  pub none-with-system : (n : ℕ) → IsRow st n → is_system (row_of st.rows n).place ≡ false
  pub ends-home : (n : ℕ) → IsRow st n → is_end (row_of st.rows n).kind ≡ true → (row_of st.rows n).place ≡ home_of st (row_of st.rows n)

unfoldable pub RoomComesBack : Type 0
RoomComesBack =
    EverySession (λ fs log st. (qs : List ℕ) → ((q : ℕ) → IsOpen st q → member q qs ≡ true) → AllBack (after_calls st (revoke_each st qs)))
