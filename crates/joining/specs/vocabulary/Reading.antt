-- Two texts as code reads them: a line into a directory, how far reading has come, the bytes of a part.
use Rattle.std.specs.Prelude.{ℕ, suc, ◌+◌, ◌≤◌, ◌<◌, Bool, true, false, List, [], ◌∷◌, ◌++◌, map, ◌≡◌, Some, None, Result, Ok, Err, length, take, drop}
use Rattle.rows.specs.Lists.{all}
use Rattle.text.specs.declared.Given.{Given}
use Rattle.calls.specs.declared.Refusal.{Refusal}
use Rattle.calls.specs.Answers.{refusal_number}
use Rattle.text.specs.Opening.{Form, Line, last_line, form_line, bad_line, line_of, form_refusal, entry_ranged}
use Rattle.text.specs.vocabulary.Openings.{Gives, Step, Steps, entries_here}
use Rattle.text.specs.vocabulary.Sizes.{KEPT-LINE}
use Rattle.joining.specs.declared.Stage.{Stage}
use Rattle.joining.specs.declared.Stage.TheVariants.{First, Second, Over}
use Rattle.joining.specs.declared.Joining.{Joining}
use Rattle.joining.specs.declared.NotJoined.{NotJoined}
use Rattle.joining.specs.declared.NotJoined.TheVariants.{OfText, OfBoth}
use Rattle.joining.specs.declared.Fed.{Fed}
use Rattle.joining.specs.Joins.{Joined, joins, refused_text, refused_both}
use Rattle.joining.specs.Feeding.{Progress, in_first, in_second, both_read, refused_in, joined_at, Texts, fed}
use Rattle.joining.specs.vocabulary.Directories.{ENTRIES, DIRECTORY, entry_code, Held}

-- ---- a line into its directory
-- the entries of a line from a position on have room in a node, and each in a word
abbrev pub EntriesFit : List ℕ → ℕ → Type 0
EntriesFit s from = (length (entries_here s from) ≤ ENTRIES) × (all entry_ranged (entries_here s from) ≡ true)

-- their codes are stored at `at`, and n is their number
abbrev pub StoresCodes : List ℕ → ℕ → List ℕ → ℕ → List ℕ → ℕ → Type 0
StoresCodes w at s from u n =
    (n ≡ length (entries_here s from)) × (u ≡ take at w ++ (map entry_code (entries_here s from) ++ drop (at + n) w))

-- the form f has room after the forms that w holds
pub record Takes (w : List ℕ) (f : Form) : Type 0 where
  pub forms : List Form
  pub held : Held w forms
  pub taken : form_refusal forms f ≡ 0

-- it is stored: w becomes u
abbrev pub Stores : List ℕ → Form → List ℕ → Type 0
Stores w f u = (fs : List Form) → Held w fs → form_refusal fs f ≡ 0 → Held u (f ∷ fs)

-- the line is a form that has room
pub record TakesLine (w s : List ℕ) : Type 0 where
  pub form : Form
  pub is : line_of s ≡ form_line form
  pub takes : Takes w form

abbrev pub StoresLine : List ℕ → List ℕ → List ℕ → Type 0
StoresLine w s u = (f : Form) → line_of s ≡ form_line f → Stores w f u

-- g is what the forms that w holds give
pub record HeldGiven (w : List ℕ) (g : Given) : Type 0 where
  pub forms : List Form
  pub held : Held w forms
  pub gives : Gives g forms

-- whether the first pass goes on
unfoldable pub goes_on : Step → Bool
goes_on (Ok (Some g)) = true
goes_on (Ok None) = false
goes_on (Err e) = false

-- what a line does after the forms fs, which are held; w is what is held then
unfoldable pub LineHeld : List Form → Line → Step → List ℕ → Type 0
LineHeld fs last_line r w = Held w fs
LineHeld fs bad_line r w = Held w fs
LineHeld fs (form_line f) r w = (goes_on r ≡ true → Held w (f ∷ fs)) × (goes_on r ≡ false → Held w fs)

abbrev pub ReadsLine : List ℕ → List ℕ → Given → Step → List ℕ → Type 0
ReadsLine w s g r u = (fs : List Form) → Held w fs → Gives g fs → Steps fs (line_of s) r × LineHeld fs (line_of s) r u

-- ---- a line has ended
unfoldable pub is_going : Stage → Bool
is_going First = true
is_going Second = true
is_going Over = false

-- the second text begins; both are read
abbrev pub SecondBegins : Joining → Type 0
SecondBegins r = (r.stage ≡ Second) × (r.number ≡ 1) × Gives r.given []

abbrev pub BothRead : Joining → Type 0
BothRead r = (r.stage ≡ Over) × (r.refusal ≡ None)

-- r comes after a line of this number, at the stage g, that does what x says, where the forms before it gave `before`; `ended` if it ends its text
pub record AfterLine (g : Stage) (number : ℕ) (before : Given) (x : Step) (ended r : Joining) : Type 0 where
  pub taken : (given : Given) → x ≡ Ok (Some given) → (r.stage ≡ g) × (r.number ≡ number + 1) × (r.given ≡ given)
  pub last : x ≡ Ok None → r ≡ ended
  pub refused : (e : Refusal) → x ≡ Err e → (r.stage ≡ Over) × (r.refusal ≡ Some (refusal_number e)) × (r.number ≡ number) × (r.given ≡ before)

-- ---- how far reading has come
-- j, with the directories a and b, has come so far
unfoldable pub Holds : Progress → Joining → List ℕ → List ℕ → Type 0
Holds (in_first fs) j a b = (j.stage ≡ First) × (j.number ≡ suc (length fs)) × Gives j.given fs × Held a fs × Held b []
Holds (in_second fs gs) j a b = (j.stage ≡ Second) × (j.number ≡ suc (length gs)) × Gives j.given gs × Held a fs × Held b gs
Holds (both_read fs gs) j a b = (j.stage ≡ Over) × (j.refusal ≡ None) × Held a fs × Held b gs
Holds (refused_in k n) j a b = (j.stage ≡ Over) × (j.refusal ≡ Some k) × (j.number ≡ n) × (0 < k) × (0 < n)
    × (length a ≡ DIRECTORY) × (length b ≡ DIRECTORY)

-- somewhere
pub record Ready (j : Joining) (a b : List ℕ) : Type 0 where
  pub progress : Progress
  pub holds : Holds progress j a b

-- what f does to the progress is done
abbrev pub Moves : (Progress → Progress) → Joining → List ℕ → List ℕ → Joining → List ℕ → List ℕ → Type 0
Moves f j a b r c d = (p : Progress) → Holds p j a b → Holds (f p) r c d

-- ---- bytes
-- and n bytes of the line begun stand in front of `line`
pub record HoldsTexts (t : Texts) (j : Joining) (n : ℕ) (line a b : List ℕ) : Type 0 where
  pub progress : Holds t.progress j a b
  pub kept : t.line ≡ take n line
  pub short : n ≤ KEPT-LINE

-- somewhere, and `line` has the right size
pub record ReadyTexts (j : Joining) (n : ℕ) (line a b : List ℕ) : Type 0 where
  pub texts : Texts
  pub holds : HoldsTexts texts j n line a b
  pub long : length line ≡ KEPT-LINE

-- the bytes of a part up to r.next are fed; up to its end, unless reading is over
abbrev pub FeedsTexts : List ℕ → Joining → ℕ → List ℕ → List ℕ → List ℕ → Fed → List ℕ → List ℕ → List ℕ → Type 0
FeedsTexts part j n line a b r after c d =
    (t : Texts) → HoldsTexts t j n line a b → HoldsTexts (fed t (take r.next part)) r.joining r.line after c d

pub record ReadsOn (part : List ℕ) (r : Fed) : Type 0 where
  pub within : r.next ≤ length part
  pub stops : r.next < length part → r.joining.stage ≡ Over

-- ---- the end
unfoldable pub verdict_of : Joined → Result Unit NotJoined
verdict_of (joins fs) = Ok tt
verdict_of (refused_text k n) = Err (OfText k n)
verdict_of (refused_both k) = Err (OfBoth k)

abbrev pub Finishes : Joining → List ℕ → List ℕ → Result Unit NotJoined → Type 0
Finishes j a b v = (p : Progress) → Holds p j a b → v ≡ verdict_of (joined_at p)
