-- Two texts read byte by byte (docs/MANUAL.md, chapter 16): how far reading has come between two bytes, and what is joined at the end.
use Rattle.std.specs.Prelude.{ℕ, suc, List, [], ◌∷◌, ◌++◌, eqb, length, if◌then◌else◌}
use Rattle.text.specs.Opening.{Form, Line, last_line, form_line, bad_line, cut, line_of, form_refusal}
use Rattle.joining.specs.Joins.{Joined, refused_text, joined_by}
use Rattle.joining.specs.Written.{join_text}

-- ---- whole lines
-- (rules J1, J10) the forms read so far of the first text; of both; reading is over: both are read, or a line is refused
pub data Progress : Type 0 where
  in_first : List Form → Progress
  in_second : List Form → List Form → Progress
  both_read : List Form → List Form → Progress
  refused_in : ℕ → ℕ → Progress

-- (rules J6, O16) a line after the forms fs of its text: it is taken, ends the text, or is refused; a form a line, so its
-- number is one more than theirs
unfoldable pub after_line : (List Form → Progress) → Progress → List Form → Line → Progress
after_line going ended fs last_line = ended
after_line going ended fs bad_line = refused_in 2 (suc (length fs))
after_line going ended fs (form_line f) =
    let k = form_refusal fs f in
    if eqb k 0 then going (f ∷ fs) else refused_in k (suc (length fs))

-- (rules J1, J6) what a line does; what comes after reading is over is not read
unfoldable pub line_fed : Progress → List ℕ → Progress
line_fed (in_first fs) line = after_line in_first (in_second fs []) fs (line_of line)
line_fed (in_second fs gs) line = after_line (in_second fs) (both_read fs gs) gs (line_of line)
line_fed (both_read fs gs) line = both_read fs gs
line_fed (refused_in k n) line = refused_in k n

-- (rules J1, J6, O11, O12) what is joined if the input ends here: a text without its `(open)` has 2 at the line begun
unfoldable pub joined_at : Progress → Joined
joined_at (in_first fs) = refused_text 2 (suc (length fs))
joined_at (in_second fs gs) = refused_text 2 (suc (length gs))
joined_at (both_read fs gs) = joined_by fs gs
joined_at (refused_in k n) = refused_text k n

-- ---- bytes, parts
-- (rules J10, T1) between two bytes: also what is kept of the line begun
pub record Texts : Type 0 where
  pub progress : Progress
  pub line : List ℕ

unfoldable pub begun : Texts
begun = record { progress = in_first []; line = [] }

-- (rules J10, T1) a byte is kept if the line has room for it; a line feed ends the line
unfoldable pub byte_fed : Texts → ℕ → Texts
byte_fed t b =
    let line = cut (t.line ++ (b ∷ [])) in
    if eqb b 10 then record { progress = line_fed t.progress line; line = [] } else record { progress = t.progress; line = line }

-- (rule J10) bytes one after the other
unfoldable pub fed : Texts → List ℕ → Texts
fed t [] = t
fed t (b ∷ bs) = fed (byte_fed t b) bs

-- (rule J10) parts one after the other, of any number and size
unfoldable pub parts_fed : Texts → List (List ℕ) → Texts
parts_fed t [] = t
parts_fed t (part ∷ parts) = parts_fed (fed t part) parts

-- (rules J1, J10) all that is printed
unfoldable pub printed_on : List (List ℕ) → List ℕ
printed_on parts = join_text (joined_at (parts_fed begun parts).progress)
