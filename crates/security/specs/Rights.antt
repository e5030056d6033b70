-- (rule P14) Rights never grow: along the line of first sources every row is a copy of the next, down to a row of the text; only `ask` lessens rights.
-- Ruled out: a kernel whose `hold` or `register` gives another right than the row taken has, or fewer; whose `ask` lends a right that the row has not;
-- that lets a row name another object than the row it comes from.
use Rattle.std.specs.Prelude.{ℕ, true, false, List, ◌≡◌}
use Rattle.rows.specs.declared.Row.{Row}
use Rattle.rows.specs.Codes.{is_end, within}
use Rattle.rows.specs.Tables.{State, row_of}
use Rattle.text.specs.Opening.{Form}
use Rattle.text.specs.Entry.{state_opened}
use Rattle.security.specs.Sessions.{IsRow, EverySession}

-- r is what s is, with its rights or fewer; fewer only if r is a lent copy, which bears a request's number
pub record Lessens (r s : Row) : Type 0 where
  pub kind : r.kind ≡ s.kind
  pub object : r.object ≡ s.object
  pub operation : r.operation ≡ s.operation
  pub rights : within r.rights s.rights ≡ true
  pub only-lent : r.request ≡ 0 → r.rights ≡ s.rights

-- from row n the line of first sources leads to row t
pub data Descends (rs : List Row) : ℕ → ℕ → Type 0 where
  itself : (n : ℕ) → Descends rs n n
  from-source : (n t : ℕ) → Lessens (row_of rs n) (row_of rs (row_of rs n).source) → Descends rs (row_of rs n).source t → Descends rs n t

-- row n comes down from a row of the text, and names what that names, with its rights or fewer
pub record FromText (fs : List Form) (st : State) (n : ℕ) : Type 0 where
  pub text : ℕ
  pub line : Descends st.rows n text
  pub opened : IsRow (state_opened fs) text
  pub unchanged : row_of st.rows text ≡ row_of (state_opened fs).rows text
  pub kind : (row_of st.rows n).kind ≡ (row_of (state_opened fs).rows text).kind
  pub object : (row_of st.rows n).object ≡ (row_of (state_opened fs).rows text).object
  pub operation : (row_of st.rows n).operation ≡ (row_of (state_opened fs).rows text).operation
  pub rights : within (row_of st.rows n).rights (row_of (state_opened fs).rows text).rights ≡ true

-- ==== rights never grow: of every row that is no end
unfoldable pub RightsNeverGrow : Type 0
RightsNeverGrow = EverySession (λ fs log st. (n : ℕ) → IsRow st n → is_end (row_of st.rows n).kind ≡ false → FromText fs st n)
