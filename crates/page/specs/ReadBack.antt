-- A page read back (docs/MANUAL.md, rule P34): its lines, and the five fields of each from their columns.
use Rattle.std.specs.Prelude.{ℕ, suc, ◌+◌, ◌*◌, ◌-◌, List, [], ◌∷◌, map, eqb, take, drop, if◌then◌else◌}
use Rattle.rows.specs.Lists.{same_list, bytes}
use Rattle.rows.specs.Codes.{operation, subdirectory, client_end, server_end, in_node, in_clist, with_system}
use Rattle.text.specs.Opening.{lines_of}
use Rattle.page.specs.declared.Shown.{Shown}
use Rattle.page.specs.Page.{left_in, kind_text}

-- (rules G3, P34) the columns from a to b of a line; the first is 1
unfoldable pub columns : ℕ → ℕ → List ℕ → List ℕ
columns a b line = take (suc b - a) (drop (a - 1) line)

-- (rule P34) the number whose digits stand there, n what those before are worth; a space is worth nothing
unfoldable pub worth : ℕ → List ℕ → ℕ
worth n [] = n
worth n (b ∷ bs) = worth (if eqb b 32 then n else n * 10 + (b - 48)) bs

unfoldable pub number_in : List ℕ → ℕ
number_in bs = worth 0 bs

-- (rules G4, P34) the kind whose word stands there
unfoldable pub kind_in : List ℕ → ℕ
kind_in c =
    if same_list c (left_in 6 (kind_text operation)) then operation
    else if same_list c (left_in 6 (kind_text subdirectory)) then subdirectory
    else if same_list c (left_in 6 (kind_text client_end)) then client_end
    else server_end

-- (rules G4, P34) the place: the node or the c-list whose number stands after the word, or the system
unfoldable pub place_in : List ℕ → ℕ
place_in c =
    if same_list (take 5 c) (bytes "node ") then in_node (number_in (drop 5 c))
    else if same_list (take 5 c) (bytes "proc ") then in_clist (number_in (drop 5 c))
    else with_system

-- (rules G3, P34) the five fields of a line
unfoldable pub fields_of : List ℕ → Shown
fields_of line =
    record {
      number = number_in (columns 1 10 line);
      kind = kind_in (columns 12 17 line);
      place = place_in (columns 19 26 line);
      rights = number_in (columns 28 29 line);
      depth = number_in (columns 31 32 line);
    }

-- (rules G2, P34) those of each line of a page
unfoldable pub read_back : List ℕ → List Shown
read_back text = map fields_of (lines_of text)
