-- A session as code keeps it: the bytes kept in one buffer, what is printed in another; what each function does to them.
use Rattle.std.specs.Prelude.{ℕ, ◌+◌, ◌-◌, ◌≤◌, ◌<◌, true, List, [], ◌∷◌, ◌++◌, ◌≡◌, refl, length, take, drop}
use Rattle.rows.specs.Limits.{nodes, processes, most_bytes}
use Rattle.rows.specs.Layout.{right_lengths}
use Rattle.rows.specs.vocabulary.Sizes.{IsTables, IsRecords}
use Rattle.text.specs.Opening.{kept_of_line, cut}
use Rattle.text.specs.Entry.{open_entry}
use Rattle.text.specs.vocabulary.Sizes.{KEPT-LINE}
use Rattle.feed.specs.declared.Stage.{Stage}
use Rattle.feed.specs.declared.Kept.{Kept}
use Rattle.feed.specs.declared.Moved.{Moved}
use Rattle.feed.specs.declared.Fed.{Fed}
use Rattle.feed.specs.Feeding.{Session, begun, with_line, Step, stage_after, line_fed, fed, parts_fed}
use Rattle.feed.specs.Prints.{most_text}

-- ---- sizes, named in contracts as in code
abbrev pub KEPT : ℕ
KEPT = 24833

-- they are those of the definitions
pub record FeedSizesMeant : Type 0 where
  pub kept : KEPT ≡ most_text + kept_of_line

pub feed-sizes-meant : FeedSizesMeant
unfolding kept_of_line most_text nodes processes most_bytes
feed-sizes-meant = record { kept = refl }

-- ---- a session in its buffer
-- the session in the buffer b and the runs t and p: the opening that is not decided in front, then the line begun
unfoldable pub session_in : Kept → List ℕ → List ℕ → List ℕ → Session
session_in k b t p =
    record { stage = k.stage; text = take k.text b; line = take k.line (drop k.text b); tables = t; processes = p }

-- what is kept stands in the buffer
abbrev pub Stands : Kept → List ℕ → Type 0
Stands k b = k.text + k.line ≤ length b

-- the buffer has room for a whole line after the opening that is not decided
abbrev pub HasRoom : Kept → List ℕ → Type 0
HasRoom k b = (k.text + KEPT-LINE ≤ length b) × (k.line ≤ KEPT-LINE)

-- a session that parts have led to from its beginning
pub record Reached (s : Session) : Type 0 where
  pub tables : List ℕ
  pub processes : List ℕ
  pub fits : right_lengths tables processes ≡ true
  pub parts : List (List ℕ)
  pub is : s ≡ (parts_fed (begun tables processes) parts).after

-- such a session stands in the buffer b, of the right size, and the runs t and p
pub record Ready (k : Kept) (b t p : List ℕ) : Type 0 where
  pub long : length b ≡ KEPT
  pub stands : Stands k b
  pub reached : Reached (session_in k b t p)

-- ---- a byte
-- the session with a byte more of the line begun
abbrev pub with_byte : ℕ → Session → Session
with_byte c s = with_line (cut (s.line ++ (c ∷ []))) s

-- the byte c is kept: k in the buffer b becomes r in the buffer a
pub record KeepsByte (c : ℕ) (k : Kept) (b : List ℕ) (r : Kept) (a : List ℕ) : Type 0 where
  pub session : (t p : List ℕ) → session_in r a t p ≡ with_byte c (session_in k b t p)
  pub stands : Stands r a

-- ---- what is printed
-- n bytes, the text, are written to the front of `out`; what stood after them stays
abbrev pub Writes : List ℕ → List ℕ → List ℕ → ℕ → Type 0
Writes text out after n = (n ≡ length text) × (after ≡ text ++ drop n out)

-- r is the stage after an opening whose reply stands in front of `out`
abbrev pub StageOf : List ℕ → Stage → Type 0
StageOf out r =
    (t p text rest : List ℕ) → out ≡ (open_entry t p text).reply ++ rest → r ≡ stage_after (open_entry t p text).reply

-- ---- steps
-- the step x is taken: k is kept in the buffer b and the runs t and p, and what is printed is written to the front of `out`
pub record Takes (x : Step) (k : Kept) (b t p out after : List ℕ) (n : ℕ) : Type 0 where
  pub session : session_in k b t p ≡ x.after
  pub stands : Stands k b
  pub writes : Writes x.printed out after n

-- what is kept, and how many bytes were printed, at the start of a line
abbrev pub at_line_start : Stage → ℕ → ℕ → Moved
at_line_start g text n = record { kept = record { stage = g; text = text; line = 0 }; printed = n }

-- what f does to the session of k in the buffer b and the runs t and p is done: now it is that of r in a, u and v
abbrev pub Moves : (Session → Step) → Kept → List ℕ → List ℕ → List ℕ → List ℕ → Moved → List ℕ → List ℕ → List ℕ → List ℕ → Type 0
Moves f k b t p out r a u v after = Takes (f (session_in k b t p)) r.kept a u v out after r.printed

-- the line begun has ended
abbrev pub line_ended : Session → Step
line_ended s = line_fed s.stage s s.line

-- the bytes of a part from one position up to another
abbrev pub bytes_of : List ℕ → ℕ → ℕ → List ℕ
bytes_of part at next = take (next - at) (drop at part)

-- a part is read from a position on, up to its end unless `out` is full, and some bytes of it if any are left
abbrev pub ReadsOn : ℕ → List ℕ → ℕ → Type 0
ReadsOn at part next = (at ≤ next) × (next ≤ length part) × (at < length part → at < next)

-- the bytes up to the position r .next are fed
abbrev pub Feeds : List ℕ → ℕ → Kept → List ℕ → List ℕ → List ℕ → List ℕ → Fed → List ℕ → List ℕ → List ℕ → List ℕ → Type 0
Feeds part at k b t p out r a u v after = Takes (fed (session_in k b t p) (bytes_of part at r.next)) r.kept a u v out after r.printed

-- a session begins, whatever stands in the buffer and the runs, which have the right size
abbrev pub Begins : Kept → Type 0
Begins r = (b t p : List ℕ) → length b ≡ KEPT → IsTables t → IsRecords p → (session_in r b t p ≡ begun t p) × Ready r b t p
