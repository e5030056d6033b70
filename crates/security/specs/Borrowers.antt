-- (rules P20, P21) What a borrower has. Of a lent subdirectory it holds no subdirectory taken in it; every row of its c-list is its own, or hangs on a loan that it fetched.
-- Ruled out: a kernel without refusal 12 of `hold`, which lets a borrower keep its way into nodes below the one lent; one that leaves a borrower
-- a copy, or what was held through it, after its request is closed.
use Rattle.std.specs.Prelude.{ℕ, true, false, List, ◌∷◌, ◌≡◌, ◌⊎◌}
use Rattle.rows.specs.declared.Row.{Row}
use Rattle.rows.specs.declared.Request.{Request}
use Rattle.rows.specs.Lists.{some}
use Rattle.rows.specs.Codes.{is_operation, is_subdirectory, is_client, is_server, is_end, is_copied, is_node, is_clist}
use Rattle.rows.specs.Tables.{State, row_of, request_of, is_listed, on_loan, is_lent}
use Rattle.rows.specs.Sound.{is_fetched}
use Rattle.security.specs.Sessions.{IsRow, IsOpen, Has, Log, fetcher_of, EverySession}
use Rattle.security.specs.Places.{listers}

-- ---- held rows and their copies
-- a row made by `hold`: in a c-list, of a row of a node, bearing no request's number
pub record IsHeldRow (st : State) (h : ℕ) : Type 0 where
  pub stands : IsRow st h
  pub copied : is_copied (row_of st.rows h).kind ≡ true
  pub clist : is_clist (row_of st.rows h).place ≡ true
  pub source : is_node (row_of st.rows (row_of st.rows h).source).place ≡ true
  pub unborne : (row_of st.rows h).request ≡ 0

-- row n is row h, or a lent copy of it, or a lent copy of a lent copy, ..
pub data CopiesOf (rs : List Row) : ℕ → ℕ → Type 0 where
  itself : (n : ℕ) → CopiesOf rs n n
  lent-copy : (n h : ℕ) → some (row_of rs n).request ≡ true → CopiesOf rs (row_of rs n).source h → CopiesOf rs n h

-- copies of a held row that is not lent
pub record OfOwn (st : State) (n : ℕ) : Type 0 where
  pub own : ℕ
  pub copies : CopiesOf st.rows n own
  pub held : IsHeldRow st own
  pub unlent : is_lent st own ≡ false

-- copies of a row that was held through a lent copy: this is a subdirectory, itself copies of a held row that is not lent
pub record ThroughLent (st : State) (n : ℕ) : Type 0 where
  pub taken : ℕ
  pub copies : CopiesOf st.rows n taken
  pub held : IsHeldRow st taken
  pub through : some (row_of st.rows taken).via ≡ true
  pub bears : some (row_of st.rows (row_of st.rows taken).via).request ≡ true
  pub subdirectory : is_subdirectory (row_of st.rows (row_of st.rows taken).via).kind ≡ true
  pub way : OfOwn st (row_of st.rows taken).via

-- ==== no subdirectory is taken in a lent one: outside the nodes every subdirectory is copies of a row that its holder holds, not lent,
-- and every operation takes one step through a lent row at most
pub record OneStep (st : State) : Type 0 where
  pub subdirectories : (n : ℕ) → IsRow st n → is_node (row_of st.rows n).place ≡ false → is_subdirectory (row_of st.rows n).kind ≡ true → OfOwn st n
  pub operations : (n : ℕ) → IsRow st n → is_node (row_of st.rows n).place ≡ false → is_operation (row_of st.rows n).kind ≡ true → OfOwn st n ⊎ ThroughLent st n

unfoldable pub OneStepThroughLent : Type 0
OneStepThroughLent = EverySession (λ fs log st. OneStep st)

-- ==== what a process has, at all times
-- b fetched request q, which is open
pub record Borrows (log : Log) (st : State) (b q : ℕ) : Type 0 where
  pub is_open : IsOpen st q
  pub is-fetched : is_fetched (request_of st.requests q) ≡ true
  pub by : fetcher_of log q ≡ b

-- the rows that it may use as its own: held and not lent; a copy of a loan that it fetched; held through such a copy
pub data Uses (log : Log) (st : State) (b n : ℕ) : Type 0 where
  own : IsHeldRow st n → is_lent st n ≡ false → Uses log st b n
  borrowed : (q : ℕ) → some q ≡ true → (row_of st.rows n).request ≡ q → Borrows log st b q → Uses log st b n
  through-borrowed : (v q : ℕ) → IsHeldRow st n → (row_of st.rows n).via ≡ v → Has st b v → some q ≡ true → (row_of st.rows v).request ≡ q → Borrows log st b q → Uses log st b n

-- every row of its c-list
pub data Holding (log : Log) (st : State) (b n : ℕ) : Type 0 where
  uses : Uses log st b n → Holding log st b n
  -- a client end, not on loan, of a port that it made from such a row
  made : is_client (row_of st.rows n).kind ≡ true → on_loan st.requests n ≡ false → Has st b (row_of st.rows n).source → Uses log st b (row_of st.rows n).source → Holding log st b n
  -- a server end, not on loan, of a port to it
  serves : is_server (row_of st.rows n).kind ≡ true → on_loan st.requests n ≡ false → (row_of st.rows (row_of st.rows n).source).object ≡ b → Holding log st b n
  -- an end on loan, whose newest loan it fetched
  lent : (v : Request) (vs : List Request) → is_end (row_of st.rows n).kind ≡ true → listers n st.requests ≡ v ∷ vs → Borrows log st b v.number → Holding log st b n

unfoldable pub WhatAProcessHas : Type 0
WhatAProcessHas = EverySession (λ fs log st. (b n : ℕ) → is_listed st.processes b ≡ true → IsRow st n → Has st b n → Holding log st b n)

-- so who has fetched no request that is open has only: held rows that are not lent, client ends made from these, server ends of ports to it
pub data Plain (st : State) (b n : ℕ) : Type 0 where
  plain-own : IsHeldRow st n → is_lent st n ≡ false → Plain st b n
  plain-made : is_client (row_of st.rows n).kind ≡ true → on_loan st.requests n ≡ false → Has st b (row_of st.rows n).source
      → IsHeldRow st (row_of st.rows n).source → is_lent st (row_of st.rows n).source ≡ false → Plain st b n
  plain-serves : is_server (row_of st.rows n).kind ≡ true → on_loan st.requests n ≡ false → (row_of st.rows (row_of st.rows n).source).object ≡ b → Plain st b n

unfoldable pub WithoutLoans : Type 0
WithoutLoans = EverySession (λ fs log st. (b : ℕ) → is_listed st.processes b ≡ true → ((q : ℕ) → Borrows log st b q → ⊥) → (n : ℕ) → IsRow st n → Has st b n → Plain st b n)
