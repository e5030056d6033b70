-- What is promised of the holders' page.
use Rattle.std.specs.Prelude.{ℕ, ◌+◌, true, List, [], ◌∷◌, ◌++◌, map, ◌≡◌, length}
use Rattle.rows.specs.declared.Row.{Row}
use Rattle.rows.specs.Tables.{State}
use Rattle.rows.specs.Sound.{sound}
use Rattle.rows.specs.Layout.{rows_in, state_of}
use Rattle.text.specs.Opening.{lines_of}
use Rattle.page.specs.declared.Shown.{Shown}
use Rattle.page.specs.Page.{shown, line_of, in_table_order, page, lines_from}
use Rattle.page.specs.ReadBack.{read_back}

pub record PagePromises : Type 0 where
  -- (rule G2) every line has 64 bytes, whatever it shows
  pub wide : (s : Shown) → length (line_of s) ≡ 64
  -- (rule G2) cut at its line feeds, a page has the line of each row and no other, whatever the rows are
  pub line-a-row : (rs : List Row) → lines_of (page rs) ≡ map (λ s. line_of s ++ (10 ∷ [])) (in_table_order rs)
  -- (rule G5) lines from a slot on, in as many parts as one likes
  pub in_parts : (t : List ℕ) (i m n : ℕ) → lines_from t i (m + n) ≡ lines_from t i m ++ lines_from t (i + m) n
  -- (rule G5) all lines from the first slot on are the page of the rows, whatever the words hold
  pub of_words : (t p : List ℕ) → lines_from t 0 (rows_in t) ≡ page (state_of t p).rows
  -- (rule P34) of sound tables the page says the five fields of every row, in table order
  pub read-back : (st : State) → sound st ≡ true → read_back (page st.rows) ≡ in_table_order st.rows
  -- (rule P34) so sound tables with equal pages agree on them, row by row
  pub agree : (st st' : State) → sound st ≡ true → sound st' ≡ true → page st.rows ≡ page st'.rows
      → map shown st.rows ≡ map shown st'.rows
