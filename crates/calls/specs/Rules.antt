-- What the calls share: refusals in order, the caller's c-list, free slots and numbers, new rows.
use Rattle.std.specs.Prelude.{ℕ, suc, ◌+◌, ◌-◌, Bool, not, ◌&&◌, List, [], ◌∷◌, leb, ltb, eqb, length, set, if◌then◌else◌}
use Rattle.rows.specs.declared.Row.{Row}
use Rattle.rows.specs.declared.Request.{Request}
use Rattle.rows.specs.declared.Process.{Process}
use Rattle.rows.specs.Lists.{some}
use Rattle.rows.specs.Limits.{greatest_number, row_slots, request_slots, greatest_depth}
use Rattle.rows.specs.Codes.{in_clist}
use Rattle.rows.specs.Tables.{State, row_of, open_on}
use Rattle.rows.specs.Setters.{with_rows, with_processes, with_next}
use Rattle.calls.specs.declared.Answer.{Answer}
use Rattle.calls.specs.declared.Answer.TheVariants.{Refused}

-- (rule K2) what a call answers and the state after it
pub record Out : Type 0 where
  pub answer : Answer
  pub after : State

-- ---- refusals
-- (rule F8) a test of the state, and the number of the refusal where it holds
pub record Test : Type 0 where
  pub number : ℕ
  pub holds : Bool

infix 70 ◌when◌
abbrev pub ◌when◌ : ℕ → Bool → Test
k when b = record { number = k; holds = b }

-- (rules K5, F9) the numbers of the refusals of a line or of the state; 1 is for words that are no sound tables
abbrev pub is_refusal : ℕ → Bool
is_refusal k = leb 2 k && leb k 18

-- (rule F8) the lowest number that applies: that of the first test that holds, 0 if none does; tests stand lowest number first
unfoldable pub lowest : List Test → ℕ
lowest [] = 0
lowest (t ∷ ts) = if t.holds then t.number else lowest ts

-- (rule K5) a refused call leaves the state as it was
unfoldable pub refused : State → ℕ → Out
refused st k = record { answer = Refused k; after = st }

-- (rule F8) refused by the first test that holds, else what follows
unfoldable pub judge : State → List Test → Out → Out
judge st ts other = let k = lowest ts in if eqb k 0 then other else refused st k

-- ---- what the tests ask
-- (rule F11) 7: not in the caller's c-list; what names no row is in none
unfoldable pub not_held : State → ℕ → ℕ → Bool
not_held st p e = not (eqb (row_of st.rows e).place (in_clist p))

-- (rule L4) 10: the port, named by its client end, has an open request
unfoldable pub has_open : State → ℕ → Bool
has_open st c = some (open_on st.requests c).number

-- (rules L1, L4) the request that the server of a port sees at its end e: the one open on the port
unfoldable pub asked_of : State → ℕ → Request
asked_of st e = open_on st.requests (row_of st.rows e).object

-- (rule X6) 15: depth 13
unfoldable pub too_deep : ℕ → Bool
too_deep d = ltb greatest_depth d

-- (rules X7, X10, X11, X14) 16: fewer than k rows are free; rows that went do not count
unfoldable pub rows_full : State → ℕ → Bool
rows_full st k = ltb row_slots (length st.rows + k)

-- (rules X8, X12) 17: 128 requests are open
unfoldable pub requests_full : State → Bool
requests_full st = leb request_slots (length st.requests)

-- (rules X9, X13) 18: fewer than k numbers are left; 4,294,967,294 is given
unfoldable pub numbers_spent : State → ℕ → Bool
numbers_spent st k = ltb (suc greatest_number) (st.next + k)

-- ---- changes of the state that calls share
-- (rule R5) new rows in front of the old ones, and the next number after theirs
unfoldable pub with_new_rows : List Row → ℕ → State → State
with_new_rows rs n st = with_rows rs (with_next n st)

-- (rules R7, R8, R10) a copy of r with number n, in a place, from two sources (0 for none)
unfoldable pub copy_of : Row → ℕ → ℕ → ℕ → ℕ → ℕ → ℕ → ℕ → Row
copy_of r n rights place source via depth request =
    record {
      number = n;
      kind = r.kind;
      object = r.object;
      operation = r.operation;
      rights = rights;
      place = place;
      source = source;
      via = via;
      depth = depth;
      request = request;
    }

-- (rule W5) the records with that of process p, element p - 1, replaced
unfoldable pub with_record : ℕ → Process → State → State
with_record p x st = with_processes (set st.processes (p - 1) x) st
