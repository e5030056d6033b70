-- The opening text (docs/MANUAL.md, chapter 2): its lines, its forms, the number and line of its refusal, and the state that it opens.
use Rattle.std.specs.Prelude.{ℕ, zero, suc, ◌+◌, ◌-◌, Bool, true, false, not, ◌&&◌, ◌||◌, List, [], ◌∷◌, leb, ltb, eqb, length, set, take, if◌then◌else◌}
use Rattle.rows.specs.declared.Row.{Row}
use Rattle.rows.specs.Lists.{any, all, between}
use Rattle.rows.specs.Limits.{processes, nodes, greatest_operation, all_rights, most_entries, most_bytes}
use Rattle.rows.specs.Codes.{operation, subdirectory, is_operation, in_node}
use Rattle.rows.specs.Tables.{State}
use Rattle.text.specs.declared.Read.{Read}
use Rattle.text.specs.declared.Entry.{Entry}
use Rattle.text.specs.Patterns.{form, whole, most_groups}

-- ---- lines
-- (rules T1, K10) each ends with its line feed, the last one perhaps without
unfoldable pub with_byte : ℕ → List (List ℕ) → List (List ℕ)
with_byte b [] = (b ∷ []) ∷ []
with_byte b (l ∷ ls) = if eqb b 10 then (b ∷ []) ∷ l ∷ ls else (b ∷ l) ∷ ls

unfoldable pub lines_of : List ℕ → List (List ℕ)
lines_of [] = []
lines_of (b ∷ bs) = with_byte b (lines_of bs)

-- (rules T1, K12) a whole line has 255 bytes and a line feed at most; one byte more is enough to know that it is too long
unfoldable pub kept_of_line : ℕ
kept_of_line = suc (suc most_bytes)

-- (rules T1, K12) what is kept of a line
unfoldable pub cut : List ℕ → List ℕ
cut line = take kept_of_line line

-- ---- forms
-- (rule O1) lines of two forms, then `(open)`
pub data Form : Type 0 where
  -- `(node 1 (op 2 5 7) (dir 2 3))`
  node_form : ℕ → List Entry → Form
  -- `(process 1 1)` (process, prime node)
  process_form : ℕ → ℕ → Form

-- (rules O1, O10) what a line is: `(open)`, a form, or bad
pub data Line : Type 0 where
  last_line : Line
  form_line : Form → Line
  bad_line : Line

-- (rule O2) `(op 2 5 7)`: operation 5 of manager 2 with rights 7
unfoldable pub operation_entry : Read → Entry
operation_entry f = record { kind = operation; object = f.a; operation = f.b; rights = f.c }

-- (rule O2) `(dir 2 3)`: subdirectory node 2 with rights 3
unfoldable pub subdirectory_entry : Read → Entry
subdirectory_entry f = record { kind = subdirectory; object = f.b; operation = 0; rights = f.c }

-- (rules O2, T7) entries read so far, and the position after them
pub record Entries : Type 0 where
  pub entries : List Entry
  pub next : ℕ

unfoldable pub add_entry : Entry → Entries → Entries
add_entry e g = record { entries = e ∷ g.entries; next = g.next }

-- (rules O2, T7) the entries from position i on, n at most, and the position after them
unfoldable pub entries_from : ℕ → List ℕ → ℕ → Entries
entries_from zero s i = record { entries = []; next = i }
entries_from (suc n) s i =
    let o = form s i " (op # # #)" in
    let d = form s i " (dir # #)" in
    let e = if o.good then operation_entry o else subdirectory_entry d in
    let next = if o.good then o.next else d.next in
    if o.good || d.good then add_entry e (entries_from n s next) else record { entries = []; next = i }

-- (rules O1, O2) `(node n ENTRY ..)`
unfoldable pub node_line : List ℕ → Line → Line
node_line s other =
    let f = form s 0 "(node #" in
    let g = entries_from most_groups s f.next in
    if f.good && whole s (form s g.next ")\n") then form_line (node_form f.c g.entries) else other

-- (rules O1, O3) `(process p n)`
unfoldable pub process_line : List ℕ → Line → Line
process_line s other = let f = form s 0 "(process # #)\n" in if whole s f then form_line (process_form f.b f.c) else other

-- (rules O1, O11) `(open)` and its line feed
unfoldable pub open_line : List ℕ → Line → Line
open_line s other = if whole s (form s 0 "(open)\n") then last_line else other

-- (rules T1, O10, O11) bad is a line of more than 255 bytes before its line feed, one without its line feed, and every other
unfoldable pub line_of : List ℕ → Line
line_of s = if ltb (suc most_bytes) (length s) then bad_line else node_line s (process_line s (open_line s bad_line))

-- ---- refusals 3, 4 and 6 of a form
-- (rules O3, O13) rights, manager, operation and node in range
unfoldable pub entry_ranged : Entry → Bool
entry_ranged e =
    leb e.rights all_rights
    && (if is_operation e.kind then between 1 processes e.object && leb e.operation greatest_operation else between 1 nodes e.object)

-- (rules O4, R13) the form lists node n; process p
unfoldable pub gives_node : ℕ → Form → Bool
gives_node n (node_form m es) = eqb m n
gives_node n (process_form p m) = false

unfoldable pub gives_process : ℕ → Form → Bool
gives_process p (node_form m es) = false
gives_process p (process_form r m) = eqb r p

-- (rules O3, R13) the prime node that the forms give process p, 0 where they do not list it
unfoldable pub prime_of : List Form → ℕ → ℕ
prime_of [] p = 0
prime_of (node_form m es ∷ fs) p = prime_of fs p
prime_of (process_form r m ∷ fs) p = if eqb r p then m else prime_of fs p

-- (rules O13, O14, O15, O16, O7) the lowest of 3, 4 and 6, fs the earlier forms; 0 for none. Equal entries may stand
unfoldable pub form_refusal : List Form → Form → ℕ
form_refusal fs (node_form n es) =
    if not (between 1 nodes n && all entry_ranged es) then 3
    else if any (gives_node n) fs then 4
    else if ltb most_entries (length es) then 6
    else 0
form_refusal fs (process_form p n) =
    if not (between 1 processes p && between 1 nodes n) then 3
    else if any (gives_process p) fs then 4
    else 0

-- ---- the first line to which 2, 3, 4 or 6 applies
-- (rule O16) the forms before `(open)`, newest first, and the lines after it; or the refusal and its line
pub data FirstPass : Type 0 where
  read_to : List Form → List (List ℕ) → FirstPass
  stopped_by : ℕ → ℕ → FirstPass

-- (rules O8, O10, O12, O16) what follows `(open)` is not read; without it the text has 2 at the line after its last
unfoldable pub first_pass : List Form → ℕ → List (List ℕ) → FirstPass
first_pass fs n [] = stopped_by 2 n
first_pass fs n (l ∷ ls) =
    elim (line_of l) [
      | last_line ↦ read_to fs ls
      | form_line f ↦ elim (eqb (form_refusal fs f) 0) [ true ↦ first_pass (f ∷ fs) (suc n) ls | false ↦ stopped_by (form_refusal fs f) n ]
      | bad_line ↦ stopped_by 2 n
    ]

-- ---- if there is none, the first with 5
-- (rules O4, O17) each manager, each subdirectory's node and each prime node is listed by a form anywhere before `(open)`
unfoldable pub entry_listed : List Form → Entry → Bool
entry_listed fs e = if is_operation e.kind then any (gives_process e.object) fs else any (gives_node e.object) fs

unfoldable pub form_listed : List Form → Form → Bool
form_listed fs (node_form n es) = all (entry_listed fs) es
form_listed fs (process_form p n) = any (gives_node n) fs

-- (rule O17) the line of the oldest form that names something not listed, 0 for none; a form a line, so a form's line is its position in the text
unfoldable pub missing_at : List Form → List Form → ℕ
missing_at fs [] = 0
missing_at fs (f ∷ older) = let n = missing_at fs older in if ltb 0 n then n else (if form_listed fs f then 0 else suc (length older))

-- (rules K6, K7) what an opening text gives: forms and the lines after `(open)`, or a refusal and its line
pub data Opening : Type 0 where
  opens : List Form → List (List ℕ) → Opening
  refused_at : ℕ → ℕ → Opening

-- (rule O17) 5 only if no line has 2, 3, 4 or 6
unfoldable pub second_pass : FirstPass → Opening
second_pass (stopped_by k n) = refused_at k n
second_pass (read_to fs rest) = let n = missing_at fs fs in if eqb n 0 then opens fs rest else refused_at 5 n

unfoldable pub opening_of : List (List ℕ) → Opening
opening_of ls = second_pass (first_pass [] 1 ls)

-- ---- the state that it opens
-- (rule R6) a row of the text is in its node, has no source, and depth 1
unfoldable pub entry_row : ℕ → ℕ → Entry → Row
entry_row n node e =
    record {
      number = n;
      kind = e.kind;
      object = e.object;
      operation = e.operation;
      rights = e.rights;
      place = in_node node;
      source = 0;
      via = 0;
      depth = 1;
      request = 0;
    }

-- (rules O5, O7) the rows of entries after the rows rs, numbered from n on, each entry a row of its own
unfoldable pub with_entries : ℕ → ℕ → List Entry → List Row → List Row
with_entries n node [] rs = rs
with_entries n node (e ∷ es) rs = with_entries (suc n) node es (entry_row n node e ∷ rs)

-- (rule O5) a process form has no entries
unfoldable pub entries_in : Form → List Entry
entries_in (node_form n es) = es
entries_in (process_form p n) = []

-- (rules O5, O6) rows are numbered in the order of the text; a listed process starts in its prime node, through none
unfoldable pub with_form : State → Form → State
with_form st (node_form n es) =
    record { rows = with_entries st.next n es st.rows; requests = []; processes = st.processes; next = st.next + length es }
with_form st (process_form p n) =
    record { rows = st.rows; requests = []; processes = set st.processes (p - 1) (record { prime = n; active = n; through = 0 }); next = st.next }

-- (rule O18) the forms newest first; no test of room
unfoldable pub opened_from : State → List Form → State
opened_from st [] = st
opened_from st (f ∷ older) = with_form (opened_from st older) f
