-- Calls written as lines, and answers read from their text: whoever calls writes the first and reads the second.
use Rattle.std.specs.Prelude.{ℕ, zero, suc, ◌≤◌, Bool, true, false, ◌&&◌, List, [], ◌∷◌, ◌++◌, map, ◌≡◌, eqb, leb, length, if◌then◌else◌}
use Prim.Native.String.{String}
use Rattle.rows.specs.Lists.{all, distinct, some, bytes}
use Rattle.rows.specs.Limits.{greatest_number, most_pairs, most_bytes}
use Rattle.calls.specs.declared.Item.{Item}
use Rattle.calls.specs.declared.Sixteen.{Sixteen}
use Rattle.calls.specs.declared.Call.{Call}
use Rattle.calls.specs.declared.Call.TheVariants.{Go, Hold, Register, Drop, Port, Close, Ask, Fetch, Revoke, Comes, Chain, ComesAll}
use Rattle.calls.specs.declared.Answer.{Answer}
use Rattle.calls.specs.Loans.{items_of}
use Rattle.calls.specs.Answers.{Value, num, dash, all_of, refusal_of, values_of}
use Rattle.text.specs.declared.Read.{Read}
use Rattle.text.specs.Patterns.{form, whole}
use Rattle.text.specs.CallLines.{is_process, is_number, item_ranged, packed, Group, pair_ranged, comes_all}
use Rattle.text.specs.Answers.{digits_of}

-- ---- calls
-- (rules F1, F2) `(p W n)`
unfoldable pub simple_text : ℕ → String → ℕ → List ℕ
simple_text p w n = bytes "(" ++ (digits_of p ++ (bytes " " ++ (bytes w ++ (bytes " " ++ (digits_of n ++ bytes ")\n")))))

-- (rule F2) ` (# #)` for each group of two numbers
unfoldable pub groups_text : List Group → List ℕ
groups_text [] = []
groups_text (x ∷ xs) = bytes " (" ++ (digits_of x.first ++ (bytes " " ++ (digits_of x.second ++ (bytes ")" ++ groups_text xs))))

-- (rule F2) an item: its row and the rights lent
unfoldable pub item_group : Item → Group
item_group i = record { first = i.row; second = i.rights }

unfoldable pub ask_text : ℕ → ℕ → List Item → List ℕ
ask_text p c is = bytes "(" ++ (digits_of p ++ (bytes " ask " ++ (digits_of c ++ (groups_text (map item_group is) ++ bytes ")\n"))))

-- (rules F2, F4) `(p answer v x)`: x is 1 where the request was served, else 0
unfoldable pub last_of : Bool → ℕ
last_of served = if served then 1 else 0

unfoldable pub answer_text : ℕ → ℕ → ℕ → List ℕ
answer_text p v x =
    bytes "(" ++ (digits_of p ++ (bytes " answer " ++ (digits_of v ++ (bytes " " ++ (digits_of x ++ bytes ")\n")))))

unfoldable pub comes_text : ℕ → ℕ → List ℕ
comes_text e q = bytes "(comes " ++ (digits_of e ++ (bytes " " ++ (digits_of q ++ bytes ")\n")))

unfoldable pub chain_text : ℕ → List ℕ
chain_text e = bytes "(chain " ++ (digits_of e ++ bytes ")\n")

-- (rule F2) the pairs of a comesall, in order: a row that is 0 is no pair
unfoldable pub paired : List ℕ → List ℕ → List Group
paired [] qs = []
paired (e ∷ es) [] = []
paired (e ∷ es) (q ∷ qs) = if some e then record { first = e; second = q } ∷ paired es qs else paired es qs

unfoldable pub pairs_of : Sixteen → Sixteen → List Group
pairs_of es qs = paired (all_of es) (all_of qs)

unfoldable pub comes_all_text : List Group → List ℕ
comes_all_text xs = bytes "(comesall" ++ (groups_text xs ++ bytes ")\n")

-- (rules F2, P28) the line of a call
unfoldable pub call_text : Call → List ℕ
call_text (Go p e) = simple_text p "go" e
call_text (Hold p s) = simple_text p "hold" s
call_text (Register p e) = simple_text p "register" e
call_text (Drop p e) = simple_text p "drop" e
call_text (Port p e) = simple_text p "port" e
call_text (Close p c) = simple_text p "close" c
call_text (Ask p c is) = ask_text p c (items_of is)
call_text (Fetch p e) = simple_text p "fetch" e
call_text (Call.Answer p e served) = answer_text p e (last_of served)
call_text (Revoke p q) = simple_text p "revoke" q
call_text (Comes e q) = comes_text e q
call_text (Chain e) = chain_text e
call_text (ComesAll es qs) = comes_all_text (pairs_of es qs)

-- (rules F4, F5, F7) the numbers of a call are in range; no row twice among its items, and no gap before one
pub record AskInRange (p c : ℕ) (is : List Item) : Type 0 where
  pub caller : is_process p ≡ true
  pub port : is_number c ≡ true
  pub items : all item_ranged (items_of is) ≡ true
  pub apart : distinct (map (λ i. i.row) (items_of is)) ≡ true
  pub first : packed (items_of is) ≡ is

-- (rules F3, F4, F7, T1) there is a pair, each is in range, none has a gap before it, and the line is not too long
pub record PairsInRange (es qs : Sixteen) : Type 0 where
  pub there : eqb (length (pairs_of es qs)) 0 ≡ false
  pub pairs : all pair_ranged (pairs_of es qs) ≡ true
  pub first : comes_all (pairs_of es qs) ≡ ComesAll es qs
  pub short : length (comes_all_text (pairs_of es qs)) ≤ suc most_bytes

unfoldable pub InRange : Call → Type 0
InRange (Go p e) = is_process p && leb e greatest_number ≡ true
InRange (Hold p s) = is_process p && is_number s ≡ true
InRange (Register p e) = is_process p && is_number e ≡ true
InRange (Drop p e) = is_process p && is_number e ≡ true
InRange (Port p e) = is_process p && is_number e ≡ true
InRange (Close p c) = is_process p && is_number c ≡ true
InRange (Ask p c is) = AskInRange p c is
InRange (Fetch p e) = is_process p && is_number e ≡ true
InRange (Call.Answer p e served) = is_process p && is_number e ≡ true
InRange (Revoke p q) = is_process p && is_number q ≡ true
InRange (Comes e q) = is_number e && is_number q ≡ true
InRange (Chain e) = is_number e ≡ true
InRange (ComesAll es qs) = PairsInRange es qs

-- ---- answers
-- (rules K4, K5) what the text of an answer says: the refusal, 0 for none, and the values
pub record Answered : Type 0 where
  pub refusal : ℕ
  pub values : List Value

-- (rules K4, comesall-ok-2) the value at position i, if there is one: a number, or `-`; and the position after it
pub record ValueRead : Type 0 where
  pub good : Bool
  pub value : Value
  pub next : ℕ

unfoldable pub number_read : Read → ValueRead
number_read f = record { good = f.good; value = num f.c; next = f.next }

unfoldable pub dash_read : Read → ValueRead
dash_read f = record { good = f.good; value = dash; next = f.next }

unfoldable pub value_at : List ℕ → ℕ → ValueRead
value_at s i = let f = form s i " #" in if f.good then number_read f else dash_read (form s i " -")

-- (rule K4) the values from position i on, n at most
unfoldable pub values_at : ℕ → List ℕ → ℕ → List Value
values_at zero s i = []
values_at (suc n) s i = let v = value_at s i in if v.good then v.value ∷ values_at n s v.next else []

-- (rules K4, K5, P29) `(no k)`, or `(ok n ..)` with what is told of sixteen pairs at most
unfoldable pub answered_by : List ℕ → Answered
answered_by s =
    let f = form s 0 "(no #)\n" in
    if whole s f then record { refusal = f.c; values = [] } else record { refusal = 0; values = values_at most_pairs s 3 }

-- (rules K4, P31) values as numbers, 0 for `-`
unfoldable pub number_of : Value → ℕ
number_of (num n) = n
number_of dash = 0

unfoldable pub numbers_in : List Value → List ℕ
numbers_in = map number_of

-- (rule P29) what an answer says, and that its numbers are in range
unfoldable pub saying : Answer → Answered
saying a = record { refusal = refusal_of a; values = values_of a }

unfoldable pub value_in_range : Value → Bool
value_in_range (num n) = leb n greatest_number
value_in_range dash = true

unfoldable pub answer_in_range : Answer → Bool
answer_in_range a = leb (refusal_of a) greatest_number && all value_in_range (values_of a)
