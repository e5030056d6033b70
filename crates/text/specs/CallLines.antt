-- A call line (docs/MANUAL.md, chapter 3): the call that it asks for, or the refusal of its text, 2, 3, 4 or 6.
use Rattle.std.specs.Prelude.{ℕ, zero, suc, Bool, not, ◌&&◌, List, [], ◌∷◌, map, leb, ltb, eqb, length, get_or, if◌then◌else◌}
use Rattle.rows.specs.Lists.{all, distinct, between}
use Rattle.rows.specs.Limits.{processes, all_rights, greatest_number, most_items, most_pairs, most_bytes}
use Rattle.calls.specs.declared.Item.{Item}
use Rattle.calls.specs.declared.Call.{Call}
use Rattle.calls.specs.declared.Call.TheVariants.{Go, Hold, Register, Drop, Port, Close, Ask, Fetch, Revoke, Comes, Chain, ComesAll}
use Rattle.calls.specs.Calls.{sixteen_from}
use Rattle.text.specs.declared.Read.{Read}
use Rattle.text.specs.declared.Reading.{Reading}
use Rattle.text.specs.declared.Reading.TheVariants.{Asks, Crowded, Refused}
use Rattle.text.specs.Patterns.{form, whole, word_of, most_groups}

-- (rule F4) the caller is 1 to 64; row and request numbers are 1 to 4,294,967,294
unfoldable pub is_process : ℕ → Bool
is_process p = between 1 processes p

unfoldable pub is_number : ℕ → Bool
is_number e = between 1 greatest_number e

-- (rule F4) 3: a number out of range
unfoldable pub ranged : Bool → Call → Reading
ranged in_range c = if in_range then Asks c else Refused 3

-- ---- calls of one number
-- (rules F2, F3, F4) `(p W n)` with one of eight words; any other word is 2; `go` takes 0 too
unfoldable pub simple : ℕ → ℕ → ℕ → Reading
simple w p e =
    let good = is_process p && is_number e in
    if eqb w (word_of "go") then ranged (is_process p && leb e greatest_number) (Go p e)
    else if eqb w (word_of "hold") then ranged good (Hold p e)
    else if eqb w (word_of "register") then ranged good (Register p e)
    else if eqb w (word_of "drop") then ranged good (Drop p e)
    else if eqb w (word_of "port") then ranged good (Port p e)
    else if eqb w (word_of "close") then ranged good (Close p e)
    else if eqb w (word_of "fetch") then ranged good (Fetch p e)
    else if eqb w (word_of "revoke") then ranged good (Revoke p e)
    else Refused 2

unfoldable pub simple_form : List ℕ → Reading → Reading
simple_form s other = let f = form s 0 "(# @ #)\n" in if whole s f then simple f.word f.b f.c else other

-- ---- chain
-- (rules F2, F3) `(chain e)`, with no caller; every other line is 2
unfoldable pub chain_form : List ℕ → Reading
chain_form s = let f = form s 0 "(chain #)\n" in if whole s f then ranged (is_number f.c) (Chain f.c) else Refused 2

-- ---- answer
-- (rules F2, F3, F4) `(p answer v x)`, x 0 or 1: with 1 the request was served
unfoldable pub answer_form : List ℕ → Reading → Reading
answer_form s other =
    let f = form s 0 "(# answer # #)\n" in
    let good = is_process f.a && (is_number f.b && leb f.c 1) in
    if whole s f then ranged good (Call.Answer f.a f.b (eqb f.c 1)) else other

-- ---- comes
-- (rules F2, F3) `(comes e q)`, with no caller
unfoldable pub comes_form : List ℕ → Reading → Reading
comes_form s other =
    let f = form s 0 "(comes # #)\n" in
    if whole s f then ranged (is_number f.b && is_number f.c) (Comes f.b f.c) else other

-- ---- groups of two numbers: the items of an ask, the pairs of a comesall
-- (rules F2, T7) ` (# #)`: every one counts, also those after the fourth or the 16th
pub record Group : Type 0 where
  pub first : ℕ
  pub second : ℕ

pub record Gathered : Type 0 where
  pub groups : List Group
  pub next : ℕ

unfoldable pub group_of : Read → Group
group_of f = record { first = f.b; second = f.c }

unfoldable pub add_group : Group → Gathered → Gathered
add_group x g = record { groups = x ∷ g.groups; next = g.next }

-- (rules F2, T7) the groups from position i on, n at most, and the position after them
unfoldable pub gathered : ℕ → List ℕ → ℕ → Gathered
gathered zero s i = record { groups = []; next = i }
gathered (suc n) s i =
    let f = form s i " (# #)" in
    if f.good then add_group (group_of f) (gathered n s f.next) else record { groups = []; next = i }

-- ---- comesall
-- (rules F2, F4) a pair: a row and a request
unfoldable pub pair_ranged : Group → Bool
pair_ranged x = is_number x.first && is_number x.second

unfoldable pub comes_all : List Group → Call
comes_all xs = ComesAll (sixteen_from (map (λ x. x.first) xs)) (sixteen_from (map (λ x. x.second) xs))

-- (rules F3, F4, F7, F8) no pair is 2; then 3, then 6, more than 16 pairs
unfoldable pub judged_pairs : List Group → Reading
judged_pairs xs =
    if eqb (length xs) 0 then Refused 2
    else if not (all pair_ranged xs) then Refused 3
    else if ltb most_pairs (length xs) then Refused 6
    else Asks (comes_all xs)

-- (rules F2, F3) `(comesall (e q) ..)`, with no caller
unfoldable pub comes_all_form : List ℕ → Reading → Reading
comes_all_form s other =
    let f = form s 0 "(comesall" in
    let g = gathered most_groups s f.next in
    if f.good && whole s (form s g.next ")\n") then judged_pairs g.groups else other

-- ---- ask
-- (rule F2) an item: a row and the rights lent
unfoldable pub item_of : Group → Item
item_of x = record { row = x.first; rights = x.second }

-- (rule F4) an item's rights are 0 to 7
unfoldable pub item_ranged : Item → Bool
item_ranged i = is_number i.row && leb i.rights all_rights

-- (rule F2) four items, those named first
unfoldable pub no_item : Item
no_item = record { row = 0; rights = 0 }

unfoldable pub packed : List Item → List Item
packed is = get_or is 0 no_item ∷ get_or is 1 no_item ∷ get_or is 2 no_item ∷ get_or is 3 no_item ∷ []

-- (rules F4, F5, F7, F8) 3, then 4, one row twice among the items, then 6, more than four items (before which comes 5, which needs the tables)
unfoldable pub judged : ℕ → ℕ → List Item → Reading
judged p c is =
    if not (is_process p && (is_number c && all item_ranged is)) then Refused 3
    else if not (distinct (map (λ i. i.row) is)) then Refused 4
    else if ltb most_items (length is) then Crowded p
    else Asks (Ask p c (packed is))

-- (rules F1, F2) the whole line
unfoldable pub ask_form : List ℕ → Reading → Reading
ask_form s other =
    let f = form s 0 "(# ask #" in
    let g = gathered most_groups s f.next in
    if f.good && whole s (form s g.next ")\n") then judged f.b f.c (map item_of g.groups) else other

-- (rules T1, F1, F3) a call is one line, whose line feed is the last byte, of at most 255 bytes before it; every other line is 2
unfoldable pub reading_of : List ℕ → Reading
reading_of s = if ltb (suc most_bytes) (length s) then Refused 2 else ask_form s (comes_all_form s (comes_form s (simple_form s (answer_form s (chain_form s)))))
