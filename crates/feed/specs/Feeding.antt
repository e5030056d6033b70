-- A session fed its input byte by byte (docs/MANUAL.md, chapter 1): what is kept between two bytes, and what is printed when a line ends.
use Rattle.std.specs.Prelude.{ℕ, Bool, false, List, [], ◌∷◌, ◌++◌, ltb, eqb, length, if◌then◌else◌}
use Rattle.rows.specs.Lists.{same_list}
use Rattle.text.specs.Opening.{FirstPass, read_to, stopped_by, lines_of, cut, first_pass}
use Rattle.calls.specs.Answers.{num}
use Rattle.text.specs.Answers.{ok_text}
use Rattle.text.specs.Entry.{Replied, open_entry, call_entry}
use Rattle.feed.specs.declared.Stage.{Stage}
use Rattle.feed.specs.declared.Stage.TheVariants.{Opening, Calls, Over}

-- ---- what is kept
-- (rules K1, K12) between two bytes: the lines of an opening that is not decided, what is kept of the line begun, and both lent runs
pub record Session : Type 0 where
  pub stage : Stage
  pub text : List ℕ
  pub line : List ℕ
  pub tables : List ℕ
  pub processes : List ℕ

-- (rule K12) at the start of a line
abbrev pub line_start : Stage → List ℕ → List ℕ → List ℕ → Session
line_start g text t p = record { stage = g; text = text; line = []; tables = t; processes = p }

-- (rule K9) a session begins with the opening, whatever the lent words hold
unfoldable pub begun : List ℕ → List ℕ → Session
begun t p = line_start Opening [] t p

-- (rule K12) other bytes are kept of the line begun
abbrev pub with_line : List ℕ → Session → Session
with_line line s = record { stage = s.stage; text = s.text; line = line; tables = s.tables; processes = s.processes }

-- ---- steps
-- (rule K11) what is printed, and the session after it
pub record Step : Type 0 where
  pub printed : List ℕ
  pub after : Session

-- (rule K11) nothing is printed yet
unfoldable pub silent : Session → Step
silent s = record { printed = []; after = s }

-- (rule K11) a step, and then another, which goes on from the session after it
unfoldable pub followed : Step → Step → Step
followed x y = record { printed = x.printed ++ y.printed; after = y.after }

-- ---- a line has ended
-- (rules O12, O16, K11) n lines leave an opening open if its first pass would stop after the last of them
unfoldable pub goes_on : FirstPass → ℕ → Bool
goes_on (read_to fs rest) n = false
goes_on (stopped_by k m) n = ltb n m

-- (rules O12, O16, K11) each line is a form that is not refused, and `(open)` has not come
unfoldable pub undecided : List ℕ → Bool
undecided text = let ls = lines_of text in goes_on (first_pass [] 1 ls) (length ls)

-- (rules K6, K7, K9) calls follow an opening that is accepted; nothing follows one that is refused
unfoldable pub stage_after : List ℕ → Stage
stage_after reply = if same_list reply (ok_text (num 0 ∷ [])) then Calls else Over

-- (rules K6, K7, K11) an opening that is decided is answered
unfoldable pub opened : Session → List ℕ → Step
opened s text =
    let o = open_entry s.tables s.processes text in
    record { printed = o.reply; after = line_start (stage_after o.reply) [] o.tables o.processes }

-- (rules K9, K11) a line of the opening
unfoldable pub opening_line : Session → List ℕ → Step
opening_line s line =
    let text = s.text ++ line in
    if undecided text then silent (line_start Opening text s.tables s.processes) else opened s text

-- (rules K9, K11) a call
unfoldable pub call_line : Session → List ℕ → Step
call_line s line =
    let o = call_entry s.tables s.processes line in
    record { printed = o.reply; after = line_start Calls [] o.tables o.processes }

-- (rules K9, K11) what a line does, by the stage
unfoldable pub line_fed : Stage → Session → List ℕ → Step
line_fed Opening s line = opening_line s line
line_fed Calls s line = call_line s line
line_fed Over s line = silent (line_start Over [] s.tables s.processes)

-- ---- bytes, parts, the end
-- (rules T1, K12) a byte is kept if the line has room for it; a line feed ends the line
unfoldable pub byte_fed : Session → ℕ → Step
byte_fed s b =
    let line = cut (s.line ++ (b ∷ [])) in
    if eqb b 10 then line_fed s.stage s line else silent (with_line line s)

-- (rule K12) bytes one after the other
unfoldable pub fed : Session → List ℕ → Step
fed s [] = silent s
fed s (b ∷ bs) = let x = byte_fed s b in followed x (fed x.after bs)

-- (rule K12) parts one after the other, of any number and size
unfoldable pub parts_fed : Session → List (List ℕ) → Step
parts_fed s [] = silent s
parts_fed s (part ∷ parts) = let x = fed s part in followed x (parts_fed x.after parts)

-- (rule K11) nothing more is printed, and both runs stay
unfoldable pub unsaid : Session → Replied
unsaid s = record { reply = []; tables = s.tables; processes = s.processes }

-- (rules K10, O11, O12) the input ends: an opening that is not decided is, and a line begun is a call without its line feed
unfoldable pub finished : Stage → Session → Replied
finished Opening s = open_entry s.tables s.processes (s.text ++ s.line)
finished Calls s = if eqb (length s.line) 0 then unsaid s else call_entry s.tables s.processes s.line
finished Over s = unsaid s

-- (rules K12, G1) what is printed at the end of an input that comes in these parts, in the words lent, and both runs then
unfoldable pub ended_on : List ℕ → List ℕ → List (List ℕ) → Replied
ended_on t p parts = let s = (parts_fed (begun t p) parts).after in finished s.stage s

-- (rules K9, K12) all that is printed
unfoldable pub printed_on : List ℕ → List ℕ → List (List ℕ) → List ℕ
printed_on t p parts = (parts_fed (begun t p) parts).printed ++ (ended_on t p parts).reply
