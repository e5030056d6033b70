-- The tables: rows, requests, process records, the next number; look-up; comes from, first chain, on loan, lent.
use Rattle.std.specs.Prelude.{ℕ, zero, suc, max, Bool, true, false, ◌&&◌, ◌||◌, List, [], ◌∷◌, ◌++◌, map, replicate, ◌==◌, slice_index_or, if◌then◌else◌}
use Rattle.rows.specs.declared.Row.{Row}
use Rattle.rows.specs.declared.Request.{Request}
use Rattle.rows.specs.declared.Process.{Process}
use Rattle.rows.specs.Lists.{any, first_with, member, some, nonzero}
use Rattle.rows.specs.Limits.{processes}
use Rattle.rows.specs.Codes.{is_end}

-- (rules R1, R5, R13, L3) rows and requests newest first; the record of process p is element p - 1; the next number
pub record State : Type 0 where
  pub rows : List Row
  pub requests : List Request
  pub processes : List Process
  pub next : ℕ

-- (rule F11) what a look-up gives where nothing is: number 0
unfoldable pub no_row : Row
no_row = record { number = 0; kind = 0; object = 0; operation = 0; rights = 0; place = 0; source = 0; via = 0; depth = 0; request = 0 }

unfoldable pub no_request : Request
no_request = record { number = 0; port = 0; asker = 0; fetched = 0; items = [] }

unfoldable pub no_process : Process
no_process = record { prime = 0; active = 0; through = 0 }

-- (rule K7) empty tables: no row, no request, no listed process, next number 1
unfoldable pub empty : State
empty = record { rows = []; requests = []; processes = replicate processes no_process; next = 1 }

-- ---- look-up
-- (rule F11) by number: rows among rows, requests among requests
unfoldable pub row_of : List Row → ℕ → Row
row_of rs n = first_with (λ r. r.number) no_row rs n

unfoldable pub request_of : List Request → ℕ → Request
request_of vs n = first_with (λ v. v.number) no_request vs n

-- (rules L1, L4) the request open on a port; a port is named by its client end, and has one open request at most
unfoldable pub open_on : List Request → ℕ → Request
open_on vs c = first_with (λ v. v.port) no_request vs c

-- (rules R13, W5) the record of a process; it is listed if its prime node is not 0
unfoldable pub process_at : List Process → ℕ → Process
process_at ps zero = no_process
process_at ps (suc i) = slice_index_or ps i no_process

unfoldable pub is_listed : List Process → ℕ → Bool
is_listed ps p = some (process_at ps p).prime

-- (rule R1) the numbers of rows
unfoldable pub numbers : List Row → List ℕ
numbers rs = map (λ r. r.number) rs

-- ---- sources
-- (rule R1) a row has no source, one or two
unfoldable pub sources : Row → List ℕ
sources r = nonzero (r.source ∷ r.via ∷ [])

-- (rule R11) one deeper than the deepest source
unfoldable pub depth_over : List Row → ℕ → ℕ → ℕ
depth_over rs s v = suc (max (row_of rs s).depth (row_of rs v).depth)

-- (rules R14, L8) row e passes the test, or one of its sources, which are older rows, does so
unfoldable pub reaches : (Row → Bool) → List Row → ℕ → Bool
reaches f [] e = false
reaches f (r ∷ rs) e = elim (r.number == e) [ true ↦ f r || any (λ s. reaches f rs s) (sources r) | false ↦ reaches f rs e ]

-- (rules C1, C2) the same for all rows in one pass from the oldest: the numbers of those rows, newest first
unfoldable pub mark : Bool → ℕ → List ℕ → List ℕ
mark b n ns = if b then n ∷ ns else ns

unfoldable pub marked : (Row → Bool) → List Row → List ℕ
marked f [] = []
marked f (r ∷ rs) = let m = marked f rs in mark (f r || any (λ s. member s m) (sources r)) r.number m

-- (rule R10) a lent copy bears the number of its request
unfoldable pub bears : ℕ → Row → Bool
bears q r = r.request == q

-- (rules R14, L11) e comes from q if it bears the number q, or if a source of e comes from q; to be on loan in q is not enough
unfoldable pub comes_from : List Row → ℕ → ℕ → Bool
comes_from rs q e = reaches (bears q) rs e

-- (rule R15) the first chain of row e, oldest first: the first chain of its first source, which is an older row, then e
unfoldable pub first_chain : List Row → ℕ → List ℕ
first_chain [] e = []
first_chain (r ∷ rs) e = elim (r.number == e) [ true ↦ first_chain rs r.source ++ (e ∷ []) | false ↦ first_chain rs e ]

-- ---- loans
-- (rules ask-ok-2, ask-ok-3) operations and subdirectories are copied, ends move: a row that is lent itself goes back when its loan closes
abbrev pub goes_back : Row → Bool
goes_back r = is_end r.kind

-- (rule L5) an item of a request; 0 is none
unfoldable pub lists : ℕ → Request → Bool
lists e v = some e && member e v.items

-- (rule L7) an end is on loan while an open request lists it
unfoldable pub on_loan : List Request → ℕ → Bool
on_loan vs e = any (lists e) vs

-- (rules L8, L9) a row is lent if it is an end on loan, bears a request's number, or has a lent source; not for a copy that is out
unfoldable pub lent_itself : List Request → Row → Bool
lent_itself vs r = (goes_back r && on_loan vs r.number) || some r.request

unfoldable pub is_lent : State → ℕ → Bool
is_lent st e = reaches (lent_itself st.requests) st.rows e
