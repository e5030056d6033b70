-- The codes of kinds, places and rights (docs/MANUAL.md, chapter 7), and the tests by which everything else reads them.
use Rattle.std.specs.Prelude.{ℕ, ◌+◌, ◌-◌, ◌/◌, ◌%◌, Bool, ◌&&◌, ◌||◌, ◌==◌, nat_le}
use Rattle.rows.specs.Lists.{between}
use Rattle.rows.specs.Limits.{processes, nodes}

-- (rules R2, W12) the four kinds of rows
unfoldable pub operation : ℕ
operation = 1

unfoldable pub subdirectory : ℕ
subdirectory = 2

unfoldable pub client_end : ℕ
client_end = 3

unfoldable pub server_end : ℕ
server_end = 4

unfoldable pub is_operation : ℕ → Bool
is_operation k = k == operation

unfoldable pub is_subdirectory : ℕ → Bool
is_subdirectory k = k == subdirectory

unfoldable pub is_client : ℕ → Bool
is_client k = k == client_end

unfoldable pub is_server : ℕ → Bool
is_server k = k == server_end

unfoldable pub is_end : ℕ → Bool
is_end k = is_client k || is_server k

-- (rule R2) an operation or a subdirectory: what a node may hold and a loan copies
unfoldable pub is_copied : ℕ → Bool
is_copied k = is_operation k || is_subdirectory k

-- (rules L3, W12) the mark of a request: it waits for fetch, or is fetched
abbrev pub waiting_mark : ℕ
waiting_mark = 0

abbrev pub fetched_mark : ℕ
fetched_mark = 1

abbrev pub greatest_mark : ℕ
greatest_mark = fetched_mark

-- (rules R4, W12) a place is a node, the c-list of a process, or the system
unfoldable pub in_node : ℕ → ℕ
in_node n = n

unfoldable pub in_clist : ℕ → ℕ
in_clist p = 100 + p

unfoldable pub with_system : ℕ
with_system = 200

unfoldable pub is_node : ℕ → Bool
is_node place = between 1 nodes place

unfoldable pub is_clist : ℕ → Bool
is_clist place = between (in_clist 1) (in_clist processes) place

unfoldable pub is_system : ℕ → Bool
is_system place = place == with_system

-- (rule R4) the process of a c-list
unfoldable pub owner_of : ℕ → ℕ
owner_of place = place - 100

-- (rule R3) rights are hold 1, transfer 2 and register 4, added up
unfoldable pub may_hold : ℕ → Bool
may_hold r = r % 2 == 1

unfoldable pub may_transfer : ℕ → Bool
may_transfer r = r / 2 % 2 == 1

unfoldable pub may_register : ℕ → Bool
may_register r = r / 4 % 2 == 1

-- (rule R3) r is within s: each right of r is one of s
unfoldable pub within : ℕ → ℕ → Bool
within r s = nat_le (r % 2) (s % 2) && (nat_le (r / 2 % 2) (s / 2 % 2) && nat_le (r / 4 % 2) (s / 4 % 2))
