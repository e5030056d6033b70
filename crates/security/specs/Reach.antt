-- (rule P22) Reach: behind every operation and subdirectory outside the nodes stands a row of a node, with the right hold, that the first lender can come to.
-- Ruled out: a kernel whose `hold` takes rows of other nodes than the active one, or without the right; whose `go` leads to a node that no row of
-- the caller names; a borrower that comes, through what was lent to it, to nodes that its lender cannot come to.
use Rattle.std.specs.Prelude.{ℕ, true, false, List, ◌≡◌}
use Rattle.rows.specs.declared.Row.{Row}
use Rattle.rows.specs.Lists.{some}
use Rattle.rows.specs.Codes.{is_subdirectory, is_end, is_node, in_node, may_hold}
use Rattle.rows.specs.Tables.{State, row_of, process_at, is_lent}
use Rattle.calls.specs.declared.Call.TheVariants.{Register}
use Rattle.security.specs.Sessions.{IsRow, Has, EveryStep, EverySession}

-- node n is reached from node m by subdirectory rows that stand in nodes and have the right hold
pub data Reaches (st : State) (m : ℕ) : ℕ → Type 0 where
  here : Reaches st m m
  down : (k s : ℕ) → Reaches st m k → IsRow st s → (row_of st.rows s).place ≡ in_node k → is_node k ≡ true
      → is_subdirectory (row_of st.rows s).kind ≡ true → may_hold (row_of st.rows s).rights ≡ true
      → Reaches st m (row_of st.rows s).object

-- the directory row behind row n: what the held row was taken from of which n is lent copies
pub data Behind (rs : List Row) : ℕ → ℕ → Type 0 where
  taken : (n : ℕ) → (row_of rs n).request ≡ 0 → Behind rs n (row_of rs n).source
  copied : (n d : ℕ) → some (row_of rs n).request ≡ true → Behind rs (row_of rs n).source d → Behind rs n d

-- the first lender of row n: who has it, if it was neither lent nor held through a lent row; else the first lender of what was lent
pub data FirstLender (st : State) : ℕ → ℕ → Type 0 where
  has-it : (n p : ℕ) → (row_of st.rows n).request ≡ 0 → (row_of st.rows (row_of st.rows n).via).request ≡ 0 → Has st p n
      → FirstLender st n p
  of-copy : (n p : ℕ) → some (row_of st.rows n).request ≡ true → FirstLender st (row_of st.rows n).source p → FirstLender st n p
  of-way : (n p : ℕ) → (row_of st.rows n).request ≡ 0 → some (row_of st.rows (row_of st.rows n).via).request ≡ true
      → FirstLender st (row_of st.rows n).via p → FirstLender st n p

pub record ReachedBy (st : State) (n : ℕ) : Type 0 where
  pub lender : ℕ
  pub first : FirstLender st n lender
  pub directory : ℕ
  pub behind : Behind st.rows n directory
  pub stands : IsRow st directory
  pub node : is_node (row_of st.rows directory).place ≡ true
  pub right : may_hold (row_of st.rows directory).rights ≡ true
  pub reached : Reaches st (process_at st.processes lender).prime (row_of st.rows directory).place

-- ==== reach: of every operation and subdirectory outside the nodes; if it is not lent, whoever has it is the first lender
unfoldable pub ReachOfRows : Type 0
ReachOfRows =
    EverySession (λ fs log st. (n : ℕ) → IsRow st n → is_node (row_of st.rows n).place ≡ false → is_end (row_of st.rows n).kind ≡ false →
    ReachedBy st n × ((p : ℕ) → is_lent st n ≡ false → FirstLender st n p → Has st p n))

-- ==== so only `register` widens what a process may come to: of every other call the rows of nodes are as they were
unfoldable pub OnlyRegisterWidens : Type 0
OnlyRegisterWidens =
    EveryStep (λ st c st'. ((p e : ℕ) → c ≡ Register p e → ⊥) → (n : ℕ) → IsRow st' n → is_node (row_of st'.rows n).place ≡ true →
    IsRow st n × (row_of st'.rows n ≡ row_of st.rows n))
