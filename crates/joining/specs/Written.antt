-- Forms written as an opening text (docs/MANUAL.md, chapter 16), and what the program `join` prints.
use Rattle.std.specs.Prelude.{ℕ, List, [], ◌∷◌, ◌++◌, map, if◌then◌else◌}
use Rattle.rows.specs.Lists.{bytes}
use Rattle.rows.specs.Codes.{is_operation}
use Rattle.calls.specs.Answers.{num}
use Rattle.text.specs.declared.Entry.{Entry}
use Rattle.text.specs.Opening.{Form, node_form, process_form, lines_of}
use Rattle.text.specs.Answers.{spaced, no_text}
use Rattle.joining.specs.Joins.{Joined, joins, refused_text, refused_both, join_of}

-- (rules J2, O2) ` (op 2 5 7)`, ` (dir 2 3)`
unfoldable pub operation_text : Entry → List ℕ
operation_text e = bytes " (op" ++ (spaced (map num (e.object ∷ e.operation ∷ e.rights ∷ [])) ++ bytes ")")

unfoldable pub subdirectory_text : Entry → List ℕ
subdirectory_text e = bytes " (dir" ++ (spaced (map num (e.object ∷ e.rights ∷ [])) ++ bytes ")")

unfoldable pub entry_text : Entry → List ℕ
entry_text e = if is_operation e.kind then operation_text e else subdirectory_text e

unfoldable pub entries_text : List Entry → List ℕ
entries_text [] = []
entries_text (e ∷ es) = entry_text e ++ entries_text es

-- (rules J2, O1) a line: `(node n ENTRY ..)` or `(process p n)`
unfoldable pub form_text : Form → List ℕ
form_text (node_form n es) = bytes "(node" ++ (spaced (num n ∷ []) ++ (entries_text es ++ bytes ")\n"))
form_text (process_form p n) = bytes "(process" ++ (spaced (num p ∷ num n ∷ []) ++ bytes ")\n")

-- (rules J2, O1) a line a form, then `(open)`
unfoldable pub text_of : List Form → List ℕ
text_of [] = bytes "(open)\n"
text_of (f ∷ fs) = form_text f ++ text_of fs

-- (rules J2, J6) the joined text, or the refusal: `(no k n)` of a text, `(no k)` of both
unfoldable pub join_text : Joined → List ℕ
join_text (joins fs) = text_of fs
join_text (refused_text k n) = no_text (k ∷ n ∷ [])
join_text (refused_both k) = no_text (k ∷ [])

-- (rule J1) the bytes of standard input to the bytes that `join` prints
unfoldable pub join : List ℕ → List ℕ
join input = join_text (join_of (lines_of input))
