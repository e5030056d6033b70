-- Answers as text: one line for the opening, then one a call.
use Rattle.std.specs.Prelude.{ℕ, zero, suc, ◌+◌, ◌/◌, ◌%◌, List, [], ◌∷◌, ◌++◌, map, ltb, eqb, if◌then◌else◌}
use Rattle.rows.specs.Lists.{bytes}
use Rattle.calls.specs.declared.Answer.{Answer}
use Rattle.calls.specs.Answers.{Value, num, dash, refusal_of, values_of}

-- (rule K4) a number's digits, d at most: decimal, without leading zeros
unfoldable pub decimal : ℕ → ℕ → List ℕ
decimal zero n = []
decimal (suc d) n = if ltb n 10 then (48 + n) ∷ [] else decimal d (n / 10) ++ ((48 + n % 10) ∷ [])

unfoldable pub digits_of : ℕ → List ℕ
digits_of n = decimal 10 n

-- (rules K4, comesall-ok-2) a number, or `-`
unfoldable pub value_text : Value → List ℕ
value_text (num n) = digits_of n
value_text dash = bytes "-"

-- (rule K4) single spaces
unfoldable pub spaced : List Value → List ℕ
spaced [] = []
spaced (v ∷ vs) = 32 ∷ (value_text v ++ spaced vs)

-- (rules K4, K6) `(ok n ..)` and a line feed
unfoldable pub ok_text : List Value → List ℕ
ok_text vs = bytes "(ok" ++ (spaced vs ++ bytes ")\n")

-- (rules K5, K7) `(no k)` of a call, `(no k n)` of an opening, and a line feed
unfoldable pub no_text : List ℕ → List ℕ
no_text ns = bytes "(no" ++ (spaced (map num ns) ++ bytes ")\n")

-- (rules K4, K5) an accepted call's values, or the refusal
unfoldable pub printed : Answer → List ℕ
printed a = let k = refusal_of a in if eqb k 0 then ok_text (values_of a) else no_text (k ∷ [])
