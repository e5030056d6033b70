-- The holders' page (docs/MANUAL.md, chapter 15): a line a row, in table order, five fields of the row in their columns.
use Rattle.std.specs.Prelude.{ℕ, zero, suc, ◌+◌, List, [], ◌∷◌, ◌++◌, length, take, drop, replicate, if◌then◌else◌}
use Rattle.rows.specs.declared.Row.{Row}
use Rattle.rows.specs.Lists.{bytes}
use Rattle.rows.specs.Codes.{is_operation, is_subdirectory, is_client, is_server, is_node, is_clist, is_system, owner_of}
use Rattle.rows.specs.Layout.{raw_row}
use Rattle.text.specs.Answers.{digits_of}
use Rattle.page.specs.declared.Shown.{Shown}

-- ---- columns
-- (rule G3) n spaces
unfoldable pub spaces : ℕ → List ℕ
spaces n = replicate n 32

-- (rule G3) a text in w columns, left-aligned: spaces after it; right-aligned: spaces before it, and of a longer one the last w bytes
unfoldable pub left_in : ℕ → List ℕ → List ℕ
left_in w t = take w (t ++ spaces w)

unfoldable pub right_in : ℕ → List ℕ → List ℕ
right_in w t = drop (length t) (spaces w ++ t)

-- ---- fields
-- (rule G4) a kind; nothing for a code that is none
unfoldable pub kind_text : ℕ → List ℕ
kind_text k =
    if is_operation k then bytes "op"
    else if is_subdirectory k then bytes "dir"
    else if is_client k then bytes "client"
    else if is_server k then bytes "server"
    else []

-- (rule G4) a place; nothing for a code that is none
unfoldable pub place_text : ℕ → List ℕ
place_text p =
    if is_node p then bytes "node " ++ digits_of p
    else if is_clist p then bytes "proc " ++ digits_of (owner_of p)
    else if is_system p then bytes "system"
    else []

-- (rule G3) what a line shows of a row
unfoldable pub shown : Row → Shown
shown r = record { number = r.number; kind = r.kind; place = r.place; rights = r.rights; depth = r.depth }

-- ---- lines
-- (rules G2, G3) number in columns 1 to 10, kind in 12 to 17, place in 19 to 26, rights in 28 to 29, depth in 31 to 32; spaces up to column 64
unfoldable pub line_of : Shown → List ℕ
line_of s =
    right_in 10 (digits_of s.number) ++ (spaces 1
    ++ (left_in 6 (kind_text s.kind) ++ (spaces 1
    ++ (left_in 8 (place_text s.place) ++ (spaces 1
    ++ (right_in 2 (digits_of s.rights) ++ (spaces 1
    ++ (right_in 2 (digits_of s.depth) ++ spaces 32))))))))

-- (rule G2) a line and its line feed for each
unfoldable pub page_of : List Shown → List ℕ
page_of [] = []
page_of (s ∷ ss) = line_of s ++ (10 ∷ page_of ss)

-- ---- the page
-- (rules G2, R5) the rows of a state are newest first; in table order the oldest is first
unfoldable pub in_table_order : List Row → List Shown
in_table_order [] = []
in_table_order (r ∷ rs) = in_table_order rs ++ (shown r ∷ [])

-- (rules G1, G2) the page of these rows
unfoldable pub page : List Row → List ℕ
page rs = page_of (in_table_order rs)

-- (rule G5) n lines from the slot i on, whatever the words hold
unfoldable pub lines_from : List ℕ → ℕ → ℕ → List ℕ
lines_from t i zero = []
lines_from t i (suc n) = lines_from t i n ++ (line_of (shown (raw_row t (i + n))) ++ (10 ∷ []))
