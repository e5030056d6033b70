-- What the history's words mean (docs/MANUAL.md, 10.1): chains, what they use, dropped and closed, stands, comes from, on loan.
use Rattle.std.specs.Prelude.{ℕ, ◌<◌, true, ◌&&◌, ◌≡◌, ◌⊎◌, eqb}
use Rattle.rows.specs.Lists.{any, member}
use Rattle.history.specs.History.{History}
use Rattle.history.specs.Notes.{noted, noted_of, loan_of}

-- (rules H3, H5) what a chain uses, and what can be dropped or closed
pub data Thing : Type 0 where
  a_row a_request a_port : ℕ → Thing

-- (rule H1) row n is noted; it is a row of the text
unfoldable pub IsNoted : History → ℕ → Type 0
IsNoted h n = member n (noted h.rows) ≡ true

unfoldable pub IsText : History → ℕ → Type 0
IsText h n = member n h.text ≡ true

-- (rule H2) s is a source of row n
unfoldable pub IsSource : History → ℕ → ℕ → Type 0
IsSource h s n = member s (noted_of h.rows n).sources ≡ true

-- (rule H3) a chain of a row is a line of rows, each a source of the one before it, that ends in a row of the text
pub data Chain (h : History) : ℕ → Type 0 where
  ends : (n : ℕ) → IsText h n → Chain h n
  leads : (n s : ℕ) → IsSource h s n → Chain h s → Chain h n

-- (rule H3) it uses each of its rows, each request that one of them bears, and each port that one of them is an end of
unfoldable pub RowUses : History → ℕ → Thing → Type 0
RowUses h n (a_row m) = m ≡ n
RowUses h n (a_request q) = (0 < q) × ((noted_of h.rows n).request ≡ q)
RowUses h n (a_port c) = (0 < c) × ((noted_of h.rows n).port ≡ c)

unfoldable pub Uses : (h : History) {n : ℕ} → Chain h n → Thing → Type 0
Uses h (ends n t) x = RowUses h n x
Uses h (leads n s i k) x = RowUses h n x ⊎ Uses h k x

-- (rules L1, H2) port c is noted: its client end is
unfoldable pub IsPort : History → ℕ → Type 0
IsPort h c = (0 < c) × ((noted_of h.rows c).port ≡ c)

-- (rule H2) request q is noted, on port c
pub record AskedOver (h : History) (q c : ℕ) : Type 0 where
  pub is_number : 0 < q
  pub request : (loan_of h.requests q).number ≡ q
  pub port : (loan_of h.requests q).port ≡ c

-- (rule H4) dropped or closed by a call; a port also when its operation row stands no more, a request when its port is closed
pub data Gone (h : History) : Thing → Type 0 where
  row_dropped : (n : ℕ) → member n h.dropped ≡ true → Gone h (a_row n)
  request_closed : (q : ℕ) → member q h.closed_requests ≡ true → Gone h (a_request q)
  port_closed : (c : ℕ) → member c h.closed_ports ≡ true → Gone h (a_port c)
  operation_fell : (c e : ℕ) → IsPort h c → IsSource h e c → (k : Chain h e) (x : Thing) → Uses h k x → Gone h x → Gone h (a_port c)
  port_fell : (q c : ℕ) → AskedOver h q c → Gone h (a_port c) → Gone h (a_request q)

-- (rule H5) a row stands if none of its chains uses something dropped or closed
pub record Stands (h : History) (n : ℕ) : Type 0 where
  pub is_noted : IsNoted h n
  pub unbroken : (k : Chain h n) (x : Thing) → Uses h k x → Gone h x → ⊥

-- (rule R14) by the notes: bears the request's number, or has a source that comes from it
pub data ComesFrom (h : History) (q : ℕ) : ℕ → Type 0 where
  bears : (n : ℕ) → 0 < q → (noted_of h.rows n).request ≡ q → ComesFrom h q n
  by_source : (n s : ℕ) → IsSource h s n → ComesFrom h q s → ComesFrom h q n

-- (rule H6) request q has the end e on loan
unfoldable pub HasOnLoan : History → ℕ → ℕ → Type 0
HasOnLoan h q e = any (λ o. eqb o.request q && eqb o.lent e) h.loans ≡ true
