-- What the reader of an opening text tells of it: an entry, entries, a line, what is given, and how the passes end.
use Rattle.std.specs.Prelude.{ℕ, suc, ◌+◌, ◌<◌, ◌≡◌, Bool, false, ◌&&◌, List, [], ◌∷◌, Option, Some, None, Result, Ok, Err, eqb, length, get_or, if◌then◌else◌}
use Rattle.rows.specs.Lists.{all, any}
use Rattle.text.specs.declared.Read.{Read}
use Rattle.text.specs.declared.Entry.{Entry}
use Rattle.text.specs.declared.EntriesRead.{EntriesRead}
use Rattle.text.specs.declared.LineRead.{LineRead}
use Rattle.text.specs.declared.LineRead.TheVariants.{Node, Process, Last, Bad}
use Rattle.text.specs.declared.Given.{Given}
use Rattle.calls.specs.declared.Refusal.{Refusal}
use Rattle.text.specs.declared.Refused.{Refused}
use Rattle.text.specs.declared.Naming.{Naming}
use Rattle.text.specs.declared.Naming.TheVariants.{Listed, Missing, Ended}
use Rattle.text.specs.Patterns.{form}
use Rattle.text.specs.Opening.{operation_entry, subdirectory_entry, Entries, entry_ranged, Form, node_form, process_form, Line, last_line, form_line, bad_line, lines_of, process_line, open_line, entries_from, entries_in, gives_node, gives_process, form_refusal, entry_listed, form_listed, missing_at, first_pass, FirstPass, read_to, stopped_by, Opening, opens, refused_at}
use Rattle.text.specs.vocabulary.Sizes.{GROUPS, NODES}
use Rattle.calls.specs.Answers.{refusal_number}
use Rattle.rows.specs.vocabulary.Sizes.{PROCESSES}

-- ---- lines
-- how long the first line of a text is, with its line feed
unfoldable pub first_line : List ℕ → ℕ
first_line [] = 0
first_line (b ∷ bs) = if eqb b 10 then 1 else suc (first_line bs)

-- ---- entries
-- the entry at a position, and the position after it
unfoldable pub entry_read : List ℕ → ℕ → Option (Entry × ℕ)
entry_read s i =
    let o = form s i " (op # # #)" in
    let d = form s i " (dir # #)" in
    if o.good then Some (operation_entry o, o.next) else if d.good then Some (subdirectory_entry d, d.next) else None

unfoldable pub entries_read : Entries → EntriesRead
entries_read g = record { next = g.next; count = length g.entries; ranged = all entry_ranged g.entries }

-- ---- a line
-- what a line is that is no node form
abbrev pub other_line : List ℕ → Line
other_line s = process_line s (open_line s bad_line)

unfoldable pub line_read : Line → LineRead
line_read last_line = Last
line_read bad_line = Bad
line_read (form_line (node_form n es)) = Node n (length es) (all entry_ranged es)
line_read (form_line (process_form p n)) = Process p n

-- if es are the entries g, r is the node form of the head f and of them where the head was read and the line ended, else another line
abbrev pub JudgesNode : List ℕ → Read → EntriesRead → Bool → LineRead → Type 0
JudgesNode s f es ended r =
    (g : Entries) → es ≡ entries_read g
    → r ≡ line_read (if f.good && ended then form_line (node_form f.c g.entries) else other_line s)

-- ---- what forms have given
pub record Gives (g : Given) (fs : List Form) : Type 0 where
  pub many-nodes : length g.nodes ≡ suc NODES
  pub many-processes : length g.processes ≡ suc PROCESSES
  pub node : (n : ℕ) → get_or g.nodes n false ≡ any (gives_node n) fs
  pub process : (p : ℕ) → get_or g.processes p false ≡ any (gives_process p) fs

-- what the code knows of a node form's entries: how many, and whether each is in range
pub record NodeTold (count : ℕ) (ranged : Bool) (es : List Entry) : Type 0 where
  pub counted : count ≡ length es
  pub in-range : ranged ≡ all entry_ranged es

-- ---- the first pass
-- what one line does: the first pass goes on with what is given now, ends at `(open)`, or the line is refused
abbrev pub Step : Type 0
Step = Result (Option Given) Refusal

-- it goes on with what the forms fs give
unfoldable pub GoesOn : List Form → Step → Type 0
GoesOn fs (Ok (Some g)) = Gives g fs
GoesOn fs (Ok None) = ⊥
GoesOn fs (Err e) = ⊥

-- it ends
unfoldable pub EndsText : Step → Type 0
EndsText (Ok (Some g)) = ⊥
EndsText (Ok None) = Unit {0}
EndsText (Err e) = ⊥

-- it is refused with the number k
unfoldable pub RefusedWith : ℕ → Step → Type 0
RefusedWith k (Ok x) = ⊥
RefusedWith k (Err e) = refusal_number e ≡ k

-- what a form does after the forms fs: it is taken, or refused
pub record FormSteps (fs : List Form) (f : Form) (r : Step) : Type 0 where
  pub taken : form_refusal fs f ≡ 0 → GoesOn (f ∷ fs) r
  pub refused : (form_refusal fs f ≡ 0 → ⊥) → RefusedWith (form_refusal fs f) r

-- of a node form whose entries are told by their number and range: its refusal; what it does
abbrev pub RefusesNode : Given → ℕ → ℕ → Bool → ℕ → Type 0
RefusesNode g n count ranged k = (fs : List Form) (es : List Entry) → Gives g fs → NodeTold count ranged es → k ≡ form_refusal fs (node_form n es)

abbrev pub StepsNode : Given → ℕ → ℕ → Bool → Step → Type 0
StepsNode g n count ranged r = (fs : List Form) (es : List Entry) → Gives g fs → NodeTold count ranged es → FormSteps fs (node_form n es) r

-- what a line does after the forms fs
unfoldable pub Steps : List Form → Line → Step → Type 0
Steps fs last_line r = EndsText r
Steps fs bad_line r = RefusedWith 2 r
Steps fs (form_line f) r = FormSteps fs f r

-- how the first pass ends: with what the forms give, or with a refusal and its line
unfoldable pub Ends : FirstPass → Result Given Refused → Type 0
Ends (read_to fs rest) (Ok g) = Gives g fs
Ends (read_to fs rest) (Err r) = ⊥
Ends (stopped_by k n) (Ok g) = ⊥
Ends (stopped_by k n) (Err r) = (r.number ≡ k) × (r.line ≡ n) × (0 < k)

-- ---- the second pass
-- whether the entries from a position on, n at most, name only what the forms fs give
unfoldable pub listed_from : List Form → ℕ → List ℕ → ℕ → Bool
listed_from fs n s i = all (entry_listed fs) (entries_from n s i).entries

-- the entries from a position on
abbrev pub entries_here : List ℕ → ℕ → List Entry
entries_here s at = (entries_from GROUPS s at).entries

-- of a form after which so many rows are written
unfoldable pub naming_of : Bool → ℕ → Naming
naming_of listed rows = if listed then Listed rows else Missing

-- whether a line, before which so many rows are written, names only what the forms fs give
unfoldable pub naming : List Form → ℕ → Line → Naming
naming fs rows last_line = Ended
naming fs rows bad_line = Ended
naming fs rows (form_line f) = naming_of (form_listed fs f) (rows + length (entries_in f))

-- r says whether the entries from a position on, a line, names only what is given
abbrev pub NamesEntries : Given → List ℕ → ℕ → ℕ → Naming → Type 0
NamesEntries g s at rows r =
    (fs : List Form) → Gives g fs → r ≡ naming_of (listed_from fs GROUPS s at) (rows + length (entries_here s at))

abbrev pub NamesLine : Given → ℕ → Line → Naming → Type 0
NamesLine g rows l r = (fs : List Form) → Gives g fs → r ≡ naming fs rows l

-- the first pass reads the text up to `(open)`
abbrev pub ReadTo : List ℕ → List Form → List (List ℕ) → Type 0
ReadTo text fs rest = first_pass [] 1 (lines_of text) ≡ read_to fs rest

-- a line by its number, 0 for none
unfoldable pub line_at : ℕ → Option ℕ
line_at n = if eqb n 0 then None else Some n

-- r is the first line that names what the forms do not give
abbrev pub Misses : Given → List ℕ → Option ℕ → Type 0
Misses g text r = (fs : List Form) (rest : List (List ℕ)) → ReadTo text fs rest → Gives g fs → r ≡ line_at (missing_at fs fs)

-- ---- the opening
unfoldable pub verdict_of : Opening → Result Unit Refused
verdict_of (opens fs rest) = Ok tt
verdict_of (refused_at k n) = Err (record { number = k; line = n })
