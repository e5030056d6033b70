-- What is promised of two texts that are joined.
use Rattle.std.specs.Prelude.{ℕ, true, ◌||◌, List, [], ◌++◌, reverse, ◌≡◌}
use Rattle.rows.specs.declared.Process.{Process}
use Rattle.rows.specs.Lists.{any, all}
use Rattle.rows.specs.Tables.{State, process_at}
use Rattle.rows.specs.Sound.{is_opening}
use Rattle.rows.specs.Layout.{right_lengths, sound_words}
use Rattle.calls.specs.declared.Call.TheVariants.{Revoke}
use Rattle.text.specs.declared.Entry.{Entry}
use Rattle.text.specs.declared.Reading.TheVariants.{Asks}
use Rattle.text.specs.CallLines.{reading_of}
use Rattle.text.specs.Opening.{Form, read_to, opens, lines_of, first_pass, opening_of}
use Rattle.text.specs.Entry.{open_entry, state_opened}
use Rattle.history.specs.Reading.{accepts}
use Rattle.history.specs.Demand3.{state_in, Holds, Revoked}
use Rattle.history.specs.Promises.{after_lines, told_by, after_line, Accepted}
use Rattle.joining.specs.Joins.{same_entry, entries_of, entries_joined, prime_joined, forms_joined, join_refusal, joins, join_of}
use Rattle.joining.specs.Written.{text_of, join}
use Rattle.joining.specs.Opened.{entries_at, times, times_joined, in_order}

-- ---- two texts
-- (rules J1, J6) the forms of both texts, newest first, neither refused, nor both together
pub record TwoTexts (input : List ℕ) (fs gs : List Form) : Type 0 where
  -- the lines after the first `(open)`, and after the second
  pub second : List (List ℕ)
  pub rest : List (List ℕ)
  pub first_read : first_pass [] 1 (lines_of input) ≡ read_to fs second
  pub second-read : first_pass [] 1 second ≡ read_to gs rest
  pub accepted : join_refusal fs gs ≡ 0

-- (rules J2, J3) they are joined to the forms js
pub record JoinsTwo (input : List ℕ) (js : List Form) : Type 0 where
  pub first : List Form
  pub second : List Form
  pub texts : TwoTexts input first second
  pub forms : js ≡ forms_joined first second
  pub printed : join input ≡ text_of js

-- ---- the state
-- (rule P37) a process that starts in its prime node; one that is not listed has none
abbrev pub starts_in : ℕ → Process
starts_in n = record { prime = n; active = n; through = 0 }

-- (rule P37) the rows and processes of both texts, and no other
pub record Joined (fs gs : List Form) (st : State) : Type 0 where
  -- every row is one of a text, in a node
  pub rows : all is_opening st.rows ≡ true
  -- node by node, in this order
  pub entries : (n : ℕ) → entries_at st n ≡ entries_joined fs gs n
  -- as often as the rule says, so every entry of either text is there
  pub as-often : (n : ℕ) (e : Entry) → times e (entries_at st n) ≡ times_joined fs gs n e
  pub of_either : (n : ℕ) (e : Entry) → any (same_entry e) (entries_at st n) ≡ any (same_entry e) (entries_of fs n) || any (same_entry e) (entries_of gs n)
  pub process : (p : ℕ) → process_at st.processes p ≡ starts_in (prime_joined fs gs p)

-- ---- all that holds of an opening
-- (rules P39, P3, P5, P6, P7) after any lines on words of any content: kept soundness, and demand 3
pub record Follows (t p text : List ℕ) (lines : List (List ℕ)) : Type 0 where
  pub sound : sound_words (after_lines t p text lines).tables (after_lines t p text lines).processes ≡ true
  pub holds : Holds (told_by t p text lines) (state_in (after_lines t p text lines))
  pub revoked : (line : List ℕ) (r q : ℕ) → reading_of line ≡ Asks (Revoke r q) → accepts (after_line (after_lines t p text lines) line).reply ≡ true
      → Revoked (told_by t p text lines) (after_lines t p text lines) line q

-- ---- the promises
pub record JoinPromises : Type 0 where
  -- (rules J1, J2, J6) what is joined is two texts, of which nothing is refused, and their text is printed
  pub two-texts : (input : List ℕ) (js : List Form) → join_of (lines_of input) ≡ joins js → JoinsTwo input js
  -- (rule P36) the joined text opens, by the rules of an opening text
  pub opens-so : (input : List ℕ) (js : List Form) → join_of (lines_of input) ≡ joins js → opening_of (lines_of (join input)) ≡ opens (reverse js) []
  -- (rule P37) its rows and processes are those that the rule says
  pub state-joined : (input : List ℕ) (fs gs : List Form) → TwoTexts input fs gs → Joined fs gs (state_opened (reverse (forms_joined fs gs)))
  -- (rule P37) and so are those of the tables
  pub tables-joined : (input : List ℕ) (fs gs : List Form) → TwoTexts input fs gs → (t p : List ℕ) → right_lengths t p ≡ true
      → Joined fs gs (state_in (open_entry t p (join input)))
  -- (rule P38) a text joined with itself gives its forms in order
  pub with_itself : (text : List ℕ) (fs : List Form) → opening_of (lines_of text) ≡ opens fs [] → join (text ++ text) ≡ text_of (in_order fs)
  -- (rule P39) the joined text is accepted, and all that holds of an opening holds of it
  pub accepted : (input : List ℕ) (js : List Form) → join_of (lines_of input) ≡ joins js → (t p : List ℕ) → right_lengths t p ≡ true → Accepted t p (join input)
  pub follows : (input : List ℕ) (js : List Form) → join_of (lines_of input) ≡ joins js → (t p : List ℕ) → right_lengths t p ≡ true → (lines : List (List ℕ))
      → Follows t p (join input) lines
