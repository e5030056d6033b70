-- What holds of every row of a session: of those that were there, since nothing but their place changes, and of each new one, by how it is made.
use Prim.Native.Nat.{ℕ}
use mathlib.Core.List.{List}
use mathlib.Core.Path.{◌≡◌}
use mathlib.Core.Logic.{⊎_elim}
use Rattle.rows.specs.Lists.{member}
use Rattle.rows.specs.Tables.{State, row_of, numbers}
use Rattle.rows.proofs.Bools.{clash, true-or-false}
use Rattle.tables.proofs.Sound.{Sound}
use Rattle.calls.specs.declared.Call.{Call}
use Rattle.calls.specs.Calls.{effect}
use Rattle.text.specs.Opening.{Form, opens, lines_of, opening_of}
use Rattle.text.specs.Entry.{state_opened}
use Rattle.history.proofs.KeptCalls.{effect-kept}
use Rattle.security.specs.Sessions.{IsRow, Log, Session}
use Rattle.security.proofs.Sessions.{session-has}
use Rattle.security.proofs.Effects.{Effect, effect_of}
use Rattle.security.proofs.NewRows.{Newly, new_row}

-- a law P of row n of the tables st
module _ (fs : List Form) (P : State → ℕ → Type 0) where
  abbrev All : State → Type 0
  All st = (n : ℕ) → IsRow st n → P st n

  -- it holds of the rows of the text; of a row that was there it is kept; of a new row it holds
  pub record RowLaw : Type 0 where
    pub opened : (text : List ℕ) (rest : List (List ℕ)) → opening_of (lines_of text) ≡ opens fs rest → All (state_opened fs)
    pub old : (st st' : State) (c : Call) → Sound st → Sound st' → Effect st c st' → All st → (n : ℕ) → IsRow st n → IsRow st' n → P st' n
    pub new : (st st' : State) (c : Call) → Sound st → Sound st' → Effect st c st' → All st → (n : ℕ) → IsRow st' n → Newly st c n (row_of st'.rows n) → P st' n

  pub every-row : RowLaw → (log : Log) (st : State) → Session fs log st → All st
  every-row law =
      session-has (λ log st. All st) fs law.opened
      (λ log st c s a all. let st' = (effect st c).after in
      let s' = effect-kept st s c a in
      let x = effect_of st s c a in
      λ n t'. ⊎_elim (λ t. law.old st st' c s s' x all n t t') (λ u. law.new st st' c s s' x all n t' (new_row st s c st' x n t' (λ t. clash t u))) (true-or-false (member n (numbers st.rows))))
