-- The numbers and values of an answer, for every one of its cases.
use Rattle.std.specs.Prelude.{ℕ, List, [], ◌∷◌, ◌++◌, map, get_or, eqb, if◌then◌else◌}
use Rattle.rows.specs.Lists.{nonzero}
use Rattle.calls.specs.declared.Four.{Four}
use Rattle.calls.specs.declared.Sixteen.{Sixteen}
use Rattle.calls.specs.declared.Refusal.{Refusal}
use Rattle.calls.specs.declared.Refusal.TheVariants.{Unsound, BadForm, OutOfRange, GivenTwice, NotListed, TooMany, NotHeld, WrongKind, NoRight, Busy, NoRequest, Lent, InUse, Away, TooDeep, RowsFull, RequestsFull, NumbersSpent, PrimesDiffer}
use Rattle.calls.specs.declared.Answer.{Answer}
use Rattle.calls.specs.declared.Answer.TheVariants.{Done, Made, Fetched, Told, Chained, ToldAll, Refused}

-- (rule K5) the refusal's number, 0 for an accepted call
unfoldable pub refusal_of : Answer → ℕ
refusal_of Done = 0
refusal_of (Made n) = 0
refusal_of (Fetched v is) = 0
refusal_of (Told t) = 0
refusal_of (Chained a b c) = 0
refusal_of (ToldAll s) = 0
refusal_of (Refused k) = k

-- (rule K5) the number of each refusal
abbrev pub refusal_number : Refusal → ℕ
refusal_number Unsound = 1
refusal_number BadForm = 2
refusal_number OutOfRange = 3
refusal_number GivenTwice = 4
refusal_number NotListed = 5
refusal_number TooMany = 6
refusal_number NotHeld = 7
refusal_number WrongKind = 8
refusal_number NoRight = 9
refusal_number Busy = 10
refusal_number NoRequest = 11
refusal_number Lent = 12
refusal_number InUse = 13
refusal_number Away = 14
refusal_number TooDeep = 15
refusal_number RowsFull = 16
refusal_number RequestsFull = 17
refusal_number NumbersSpent = 18
refusal_number PrimesDiffer = 20

-- (rule fetch-ok) the four items that an answer holds, 0 for one that is not listed
unfoldable pub four_of : List ℕ → List ℕ
four_of is = get_or is 0 0 ∷ get_or is 1 0 ∷ get_or is 2 0 ∷ get_or is 3 0 ∷ []

-- (rules chain-ok, comesall-ok-1) four numbers together
unfoldable pub numbers_of : Four → List ℕ
numbers_of a = a.first ∷ a.second ∷ a.third ∷ a.fourth ∷ []

-- (rules chain-ok, comesall-ok-1) the same of sixteen
unfoldable pub all_of : Sixteen → List ℕ
all_of s = numbers_of s.first ++ (numbers_of s.second ++ (numbers_of s.third ++ numbers_of s.fourth))

-- (rule K4) a value: a number, or `-`
pub data Value : Type 0 where
  num : ℕ → Value
  dash : Value

-- (rules comesall-ok-1, comesall-ok-2) the codes of what is told of a pair, and the value of each: 0, 1, `-`
unfoldable pub told_no : ℕ
told_no = 1

unfoldable pub told_yes : ℕ
told_yes = 2

unfoldable pub not_told : ℕ
not_told = 3

unfoldable pub told_value : ℕ → Value
told_value c = if eqb c told_no then num 0 else if eqb c told_yes then num 1 else dash

-- (rules K4, fetch-ok, comes-ok, chain-ok) the new number or 0; of fetch the request and the items still listed, in the order asked;
-- of comes 1 or 0; of chain the rows of the chain, oldest first; (rules comesall-ok-1, comesall-ok-2) of comesall what is told of each pair
unfoldable pub values_of : Answer → List Value
values_of Done = num 0 ∷ []
values_of (Made n) = num n ∷ []
values_of (Fetched v is) = map num (v ∷ nonzero (four_of is))
values_of (Told t) = num (if t then 1 else 0) ∷ []
values_of (Chained a b c) = map num (nonzero (numbers_of a ++ (numbers_of b ++ numbers_of c)))
values_of (ToldAll s) = map told_value (nonzero (all_of s))
values_of (Refused k) = []
