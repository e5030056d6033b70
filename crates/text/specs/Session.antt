-- A whole session: the bytes of standard input to the bytes that `tablet` prints, and to the state at its end.
use Rattle.std.specs.Prelude.{ℕ, List, [], ◌∷◌, ◌++◌}
use Rattle.rows.specs.Tables.{State, empty}
use Rattle.calls.specs.Answers.{num}
use Rattle.text.specs.Opening.{Opening, opens, refused_at, lines_of, opening_of}
use Rattle.text.specs.Answers.{ok_text, no_text, printed}
use Rattle.text.specs.Entry.{call_on, state_opened}

-- (rules K9, K10) an answer a line
unfoldable pub answers : State → List (List ℕ) → List ℕ
answers st [] = []
answers st (l ∷ ls) = let o = call_on st l in printed o.answer ++ answers o.after ls

-- (rule K9) after a refused opening nothing more is printed
unfoldable pub session_of : Opening → List ℕ
session_of (refused_at k n) = no_text (k ∷ n ∷ [])
session_of (opens fs rest) = ok_text (num 0 ∷ []) ++ answers (state_opened fs) rest

-- (rules K9, P12) one line for the opening, then one a call
unfoldable pub session : List ℕ → List ℕ
session input = session_of (opening_of (lines_of input))

-- ---- its end
-- (rule G1) the state after the last line
unfoldable pub state_after : State → List (List ℕ) → State
state_after st [] = st
state_after st (l ∷ ls) = state_after (call_on st l).after ls

-- (rules G1, K7) after a refused opening the tables are empty
unfoldable pub end_of : Opening → State
end_of (refused_at k n) = empty
end_of (opens fs rest) = state_after (state_opened fs) rest

-- (rule G1) the state at the end of a session
unfoldable pub session_end : List ℕ → State
session_end input = end_of (opening_of (lines_of input))
