-- The two entry points on the lent words (docs/MANUAL.md, chapter 1): any words, any bytes in; the reply and every word out.
use Rattle.std.specs.Prelude.{ℕ, Bool, not, ◌&&◌, List, [], ◌∷◌, if◌then◌else◌}
use Rattle.rows.specs.Lists.{some}
use Rattle.rows.specs.Tables.{State, is_listed, empty}
use Rattle.rows.specs.Layout.{words_of, records_of, state_of, right_lengths, sound_words, cleared_tables, cleared_processes}
use Rattle.calls.specs.declared.Call.{Call}
use Rattle.calls.specs.Answers.{num}
use Rattle.calls.specs.Rules.{Out, ◌when◌, refused, judge}
use Rattle.calls.specs.Calls.{caller_of, perform}
use Rattle.text.specs.declared.Reading.{Reading}
use Rattle.text.specs.declared.Reading.TheVariants.{Asks, Crowded, Refused as BadLine}
use Rattle.text.specs.CallLines.{reading_of}
use Rattle.text.specs.Opening.{Form, Opening, opens, refused_at, lines_of, opening_of, opened_from}
use Rattle.text.specs.Answers.{ok_text, no_text, printed}

-- ---- a call on a state
-- (rule F6) 5: the caller is not listed; comes, chain and comesall have none
unfoldable pub caller_unlisted : State → Call → Bool
caller_unlisted st c = let p = caller_of c in some p && not (is_listed st.processes p)

-- (rules F7, F8) 5 comes before 6, and both before the refusals of the state
unfoldable pub answered : State → Reading → Out
answered st (BadLine k) = refused st k
answered st (Crowded p) = judge st (5 when not (is_listed st.processes p) ∷ []) (refused st 6)
answered st (Asks c) = judge st (5 when caller_unlisted st c ∷ []) (perform st c)

unfoldable pub call_on : State → List ℕ → Out
call_on st line = answered st (reading_of line)

-- ---- on words
-- (rules K2, K3) the reply and both runs, by the words and bytes lent and nothing else
pub record Replied : Type 0 where
  pub reply : List ℕ
  pub tables : List ℕ
  pub processes : List ℕ

unfoldable pub reply_with : List ℕ → State → Replied
reply_with text st = record { reply = text; tables = words_of st; processes = records_of st.processes }

unfoldable pub reply_of : Out → Replied
reply_of o = reply_with (printed o.answer) o.after

-- (rules F9, K5, K8) 1, no sound tables, comes before all that the line has, and leaves every word
unfoldable pub call_entry : List ℕ → List ℕ → List ℕ → Replied
call_entry t p line =
    if sound_words t p then reply_of (call_on (state_of t p) line)
    else record { reply = no_text (1 ∷ []); tables = t; processes = p }

-- (rules K6, K7) the state opened, or empty tables; whatever the tables held before is gone
unfoldable pub state_opened : List Form → State
state_opened fs = opened_from empty fs

unfoldable pub opened_by : Opening → Replied
opened_by (opens fs rest) = reply_with (ok_text (num 0 ∷ [])) (state_opened fs)
opened_by (refused_at k n) = reply_with (no_text (k ∷ n ∷ [])) empty

-- (rules K8, O9) a run of another length is `(no 1 0)`, and both runs are cleared; what the words hold does not matter
unfoldable pub open_entry : List ℕ → List ℕ → List ℕ → Replied
open_entry t p text =
    if right_lengths t p then opened_by (opening_of (lines_of text))
    else record { reply = no_text (1 ∷ 0 ∷ []); tables = cleared_tables t; processes = cleared_processes p }
