-- An opening text as it is written into the lent words: rows of entries, process records, a line, and the whole.
use Rattle.std.specs.Prelude.{ℕ, suc, ◌+◌, ◌-◌, ◌≤◌, List, ◌≡◌, length, set}
use Rattle.rows.specs.declared.Process.{Process}
use Rattle.rows.specs.Lists.{top_of}
use Rattle.rows.specs.Tables.{State, empty}
use Rattle.rows.specs.Setters.{with_rows}
use Rattle.rows.specs.Layout.{records_of}
use Rattle.rows.specs.vocabulary.Represents.{Represents}
use Rattle.rows.specs.vocabulary.Sizes.{ROWS, PROCESSES}
use Rattle.text.specs.declared.Entry.{Entry}
use Rattle.text.specs.declared.Given.{Given}
use Rattle.text.specs.declared.Naming.{Naming}
use Rattle.text.specs.declared.Naming.TheVariants.{Missing}
use Rattle.text.specs.Opening.{Form, node_form, process_form, Line, last_line, form_line, bad_line, with_entries, Opening, opens, refused_at, lines_of, opening_of}
use Rattle.text.specs.Entry.{state_opened}
use Rattle.text.specs.vocabulary.Openings.{ReadTo, Gives, entries_here}

-- the words t and p are those of the state
pub record BothRepresent (t p : List ℕ) (st : State) : Type 0 where
  pub tables : Represents t st
  pub records : p ≡ records_of st.processes

-- the rows of entries, in a node, come after the count rows there are, which are numbered from 1 on
abbrev pub AddsEntries : List ℕ → List ℕ → ℕ → ℕ → List Entry → Type 0
AddsEntries t u count node es =
    (st : State) → Represents t st → count ≡ length st.rows → top_of (λ r. r.number) st.rows ≡ count
    → Represents u (with_rows (with_entries (suc count) node es st.rows) st)

-- of entries that name only what is given
abbrev pub WritesEntries : List ℕ → List ℕ → List ℕ → ℕ → ℕ → ℕ → Naming → Type 0
WritesEntries t u s at node count r = (r ≡ Missing → ⊥) → AddsEntries t u count node (entries_here s at)

-- a process in its prime node n through none
abbrev pub at_home : ℕ → Process
at_home n = record { prime = n; active = n; through = 0 }

-- the record of process q becomes that
abbrev pub SetsRecord : List ℕ → List ℕ → ℕ → ℕ → Type 0
SetsRecord p after q n = (ps : List Process) → p ≡ records_of ps → after ≡ records_of (set ps (q - 1) (at_home n))

-- ---- a line
-- a line that the first pass took, and room for its rows after count rows
unfoldable pub LineFits : ℕ → Line → Type 0
LineFits count last_line = Unit {0}
LineFits count bad_line = ⊥
LineFits count (form_line (node_form n es)) = count + length es ≤ ROWS
LineFits count (form_line (process_form p n)) = (1 ≤ p) × (p ≤ PROCESSES)

-- what a line that names only what is given does to the words t and p after count rows
unfoldable pub LineWritten : List ℕ → List ℕ → List ℕ → List ℕ → ℕ → Line → Type 0
LineWritten t p u q count last_line = (u ≡ t) × (q ≡ p)
LineWritten t p u q count bad_line = Unit {0}
LineWritten t p u q count (form_line (node_form n es)) = AddsEntries t u count n es × (q ≡ p)
LineWritten t p u q count (form_line (process_form r n)) = (u ≡ t) × SetsRecord p q r n

abbrev pub WritesLine : List ℕ → List ℕ → List ℕ → List ℕ → ℕ → Line → Naming → Type 0
WritesLine t p u q count l r = (r ≡ Missing → ⊥) → LineWritten t p u q count l

-- of a line that is no node form: the tables stay
abbrev pub WritesRecord : List ℕ → List ℕ → ℕ → Line → Naming → Type 0
WritesRecord p q count l r = (t : List ℕ) → WritesLine t p t q count l r

-- ---- the text
-- the first pass has read the text up to `(open)`, and g is what its forms give
pub record PassedTo (text : List ℕ) (g : Given) : Type 0 where
  pub forms : List Form
  pub rest : List (List ℕ)
  pub read : ReadTo text forms rest
  pub gives : Gives g forms

-- the words are those of the state that the text's forms open
abbrev pub FormsWritten : List ℕ → List ℕ → List ℕ → Type 0
FormsWritten text t p = (fs : List Form) (rest : List (List ℕ)) → ReadTo text fs rest → BothRepresent t p (state_opened fs)

-- the state that an opening leaves: that of its forms; refused, the empty one
unfoldable pub state_after : Opening → State
state_after (opens fs rest) = state_opened fs
state_after (refused_at k n) = empty

-- the words are those of that state
abbrev pub OpeningWritten : List ℕ → List ℕ → List ℕ → Type 0
OpeningWritten text t p = BothRepresent t p (state_after (opening_of (lines_of text)))
