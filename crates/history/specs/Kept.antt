-- Kept soundness: what holds of the words after every opening and every call, whatever the bytes.
use Rattle.std.specs.Prelude.{ℕ, true, false, List, [], ◌∷◌, ◌++◌, ◌≡◌}
use Rattle.rows.specs.Tables.{empty}
use Rattle.rows.specs.Layout.{words_of, records_of, right_lengths, sound_words, cleared_tables, cleared_processes}
use Rattle.text.specs.Opening.{Form, opens, lines_of, opening_of}
use Rattle.text.specs.Answers.{no_text}
use Rattle.text.specs.Entry.{open_entry, call_entry}
use Rattle.text.specs.Session.{session}
use Rattle.history.specs.Reading.{accepts}
use Rattle.history.specs.Demand3.{lent_after, replies_to}

-- (rule P12) replies one after the other, as `tablet` prints them
unfoldable pub joined : List (List ℕ) → List ℕ
joined [] = []
joined (r ∷ rs) = r ++ joined rs

pub record Kept : Type 0 where
  -- (rule P1) an accepted opening leaves sound tables
  pub opened : (t p text : List ℕ) → accepts (open_entry t p text).reply ≡ true → sound_words (open_entry t p text).tables (open_entry t p text).processes ≡ true
  -- (rules P4, K7) a refused opening leaves empty tables
  pub opening-refused : (t p text : List ℕ) → right_lengths t p ≡ true → accepts (open_entry t p text).reply ≡ false
      → ((open_entry t p text).tables ≡ words_of empty) × ((open_entry t p text).processes ≡ records_of empty.processes)
  -- (rules P4, K8) an opening on a run of another length answers `(no 1 0)` and clears both
  pub opening-misfit : (t p text : List ℕ) → right_lengths t p ≡ false
      → ((open_entry t p text).reply ≡ no_text (1 ∷ 0 ∷ [])) × ((open_entry t p text).tables ≡ cleared_tables t) × ((open_entry t p text).processes ≡ cleared_processes p)
  -- (rule P2) every call on sound tables leaves sound tables
  pub called : (t p line : List ℕ) → sound_words t p ≡ true → sound_words (call_entry t p line).tables (call_entry t p line).processes ≡ true
  -- (rules P4, K5) a refused call leaves every word, whatever the words
  pub call-refused : (t p line : List ℕ) → accepts (call_entry t p line).reply ≡ false → ((call_entry t p line).tables ≡ t) × ((call_entry t p line).processes ≡ p)
  -- (rule P3) on sound tables no call answers 1
  pub never-one : (t p line : List ℕ) → sound_words t p ≡ true → (call_entry t p line).reply ≡ no_text (1 ∷ []) → ⊥
  -- (rule P3) so after an accepted opening the tables are sound after every list of lines
  pub session-sound : (t p text : List ℕ) → accepts (open_entry t p text).reply ≡ true → (lines : List (List ℕ)) →
      let w = lent_after (open_entry t p text) lines in
      sound_words w.tables w.processes ≡ true
  -- (rule P12) and what `session` prints is what the entry points reply, to the opening and to each line after it
  pub session-replies : (t p input : List ℕ) → right_lengths t p ≡ true → (fs : List Form) (lines : List (List ℕ)) → opening_of (lines_of input) ≡ opens fs lines →
      session input ≡ (open_entry t p input).reply ++ joined (replies_to (open_entry t p input) lines)
