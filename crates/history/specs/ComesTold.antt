-- (rules P32, P33) What `comes` answers: read from the reply to its line, and by the history.
use Rattle.std.specs.Prelude.{ℕ, List, [], ◌∷◌}
use Rattle.calls.specs.Answers.{Value, num, dash}
use Rattle.text.specs.CallLines.{Group}
use Rattle.text.specs.ReadBack.{comes_text, answered_by}
use Rattle.text.specs.Entry.{call_entry}
use Rattle.history.specs.History.{History}
use Rattle.history.specs.Chains.{a_request, AskedOver, Gone, ComesFrom}

-- ---- from a reply
-- the first value, `-` where there is none: a refusal has no value
unfoldable pub first_in : List Value → Value
first_in [] = dash
first_in (v ∷ vs) = v

-- (rules comes-ok, P32) what the line `(comes e q)` is answered on these words: 1, 0, or `-` where it is refused
unfoldable pub comes_told : List ℕ → List ℕ → Group → Value
comes_told t p x = first_in (answered_by (call_entry t p (comes_text x.first x.second)).reply).values

-- ---- by the history
-- (rules H4, P33) request q is noted, and is not closed
pub record IsOpen (h : History) (q : ℕ) : Type 0 where
  pub port : ℕ
  pub asked : AskedOver h q port
  pub not_closed : Gone h (a_request q) → ⊥

-- (rules R14, P33) the values that are right of row e and request q: 1 if the row comes from the request by the notes, else 0
pub data RightOf (h : History) (q e : ℕ) : List Value → Type 0 where
  from : ComesFrom h q e → RightOf h q e (num 1 ∷ [])
  not_from : (ComesFrom h q e → ⊥) → RightOf h q e (num 0 ∷ [])
