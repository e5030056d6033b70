-- What is promised of a session that is fed in parts: it prints, and leaves in both runs, what the definition of a session says of the whole input.
use Rattle.std.specs.Prelude.{ℕ, suc, ◌+◌, ◌*◌, ◌≤◌, true, List, [], ◌≡◌, length}
use Rattle.rows.specs.Limits.{nodes, processes, most_bytes}
use Rattle.rows.specs.Tables.{State}
use Rattle.rows.specs.Layout.{right_lengths, words_of, records_of}
use Rattle.text.specs.Opening.{kept_of_line}
use Rattle.text.specs.Entry.{Replied}
use Rattle.text.specs.Session.{session, session_end}
use Rattle.history.specs.Kept.{joined}
use Rattle.feed.specs.declared.Stage.TheVariants.{Opening}
use Rattle.feed.specs.Feeding.{Step, begun, parts_fed, ended_on, printed_on}

-- (rules O14, X1) an opening that is not decided has a line for each node and each process at most
unfoldable pub most_text : ℕ
most_text = (nodes + processes) * suc most_bytes

-- (rules P13, K12) what holds after any parts
pub record Reads (x : Step) (input : List ℕ) : Type 0 where
  -- (rule P13) once the opening is answered, what is printed is the session of what was read, but for a line begun and not ended
  pub prompt : (x.after.stage ≡ Opening → ⊥) → x.after.line ≡ [] → x.printed ≡ session input
  -- (rule K12) what is kept does not grow
  pub text-kept : length x.after.text ≤ most_text
  pub line_kept : length x.after.line ≤ kept_of_line

-- (rule G1) both runs are those of a state
abbrev pub Leaves : Replied → State → Type 0
Leaves w st = (w.tables ≡ words_of st) × (w.processes ≡ records_of st.processes)

pub record Prints : Type 0 where
  -- (rule P13) however the input is cut into parts, what is printed is the session of the whole input
  pub whole : (t p : List ℕ) → right_lengths t p ≡ true → (parts : List (List ℕ)) → printed_on t p parts ≡ session (joined parts)
  -- (rules P35, K12) and both runs are those of the state at its end
  pub ends : (t p : List ℕ) → right_lengths t p ≡ true → (parts : List (List ℕ)) → Leaves (ended_on t p parts) (session_end (joined parts))
  pub reads : (t p : List ℕ) → right_lengths t p ≡ true → (parts : List (List ℕ)) → Reads (parts_fed (begun t p) parts) (joined parts)
