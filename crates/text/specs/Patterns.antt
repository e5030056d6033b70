-- Forms are read by patterns (docs/MANUAL.md, 2.1): `#` stands for a number, `@` for a word, any other byte for itself.
use Rattle.std.specs.Prelude.{ℕ, suc, ◌+◌, ◌*◌, ◌-◌, Bool, true, false, not, ◌&&◌, List, [], ◌∷◌, leb, ltb, eqb, length, get_or, drop, if◌then◌else◌}
use Prim.Native.String.{String}
use Rattle.rows.specs.Lists.{between, bytes}
use Rattle.rows.specs.Limits.{greatest_number}
use Rattle.text.specs.declared.Run.{Run}
use Rattle.text.specs.declared.Read.{Read}

-- ---- bytes
-- (rules T2, T3) numbers are decimal, words in small letters
unfoldable pub is_digit : ℕ → Bool
is_digit b = between 48 57 b

unfoldable pub is_letter : ℕ → Bool
is_letter b = between 97 122 b

-- (rules T4, P10) what v is worth with one more digit, up to the limit, which stands for all above it: nothing wraps
unfoldable pub grown_to : ℕ → ℕ → ℕ → ℕ
grown_to limit v b = let n = v * 10 + (b - 48) in if leb n limit then n else limit

-- (rule T4) numbers are read as they are up to 4,294,967,295, one above the greatest number
unfoldable pub grown : ℕ → ℕ → ℕ
grown = grown_to (suc greatest_number)

-- (rule T2) the same of a word: a letter is worth 1 to 26 in base 32; 2 ^ 40 stands for all words of more than 8 letters
unfoldable pub spelt : ℕ → ℕ → ℕ
spelt v b = let n = v * 32 + (b - 96) in if ltb n 1099511627776 then n else 1099511627776

-- (rule T4) the bytes from position i on for as long as they pass the test, v what those before are worth; and the position after them
unfoldable pub run : (ℕ → Bool) → (ℕ → ℕ → ℕ) → ℕ → ℕ → List ℕ → Run
run test more v i [] = record { value = v; next = i }
run test more v i (b ∷ bs) = if test b then run test more (more v b) (suc i) bs else record { value = v; next = i }

unfoldable pub digits : List ℕ → ℕ → Run
digits s i = run is_digit grown 0 i (drop i s)

unfoldable pub letters : List ℕ → ℕ → Run
letters s i = run is_letter spelt 0 i (drop i s)

-- ---- pieces of a pattern
-- (rule T6) a form that is bad anywhere is bad; else the numbers and the word read so far
unfoldable pub bad : Read
bad = record { good = false; next = 0; word = 0; a = 0; b = 0; c = 0 }

unfoldable pub began : ℕ → Read
began i = record { good = true; next = i; word = 0; a = 0; b = 0; c = 0 }

unfoldable pub counted : Read → Run → Read
counted r n = record { good = true; next = n.next; word = r.word; a = r.b; b = r.c; c = n.value }

unfoldable pub worded : Read → Run → Read
worded r w = record { good = true; next = w.next; word = w.value; a = r.a; b = r.b; c = r.c }

unfoldable pub passed : Read → Read
passed r = record { good = true; next = r.next + 1; word = r.word; a = r.a; b = r.b; c = r.c }

-- (rule T3) a number is 0 alone, or digits of which the first is not 0
unfoldable pub number : List ℕ → Read → Read
number s r =
    let i = r.next in
    let b = get_or s i 0 in
    if eqb b 48 then counted r (record { value = 0; next = i + 1 }) else (if is_digit b then counted r (digits s i) else bad)

-- (rule T2) a word: letters, at least one
unfoldable pub word : List ℕ → Read → Read
word s r = if is_letter (get_or s r.next 0) then worded r (letters s r.next) else bad

-- (rule T2) any other byte of a pattern is itself: a bracket, a single space, a line feed
unfoldable pub itself : List ℕ → Read → ℕ → Read
itself s r p = if ltb r.next (length s) && eqb (get_or s r.next 0) p then passed r else bad

unfoldable pub piece : List ℕ → Read → ℕ → Read
piece s r p =
    if not r.good then r
    else if eqb p 35 then number s r
    else if eqb p 64 then word s r
    else itself s r p

-- (rule T5) all parts of the pattern, no more and no fewer
unfoldable pub pieces : List ℕ → Read → List ℕ → Read
pieces s r [] = r
pieces s r (p ∷ ps) = pieces s (piece s r p) ps

-- (rule T2) what the pattern t reads of s from position i on
unfoldable pub form : List ℕ → ℕ → String → Read
form s i t = pieces s (began i) (bytes t)

-- (rules T5, F1) the form ends where s ends
unfoldable pub whole : List ℕ → Read → Bool
whole s f = f.good && eqb f.next (length s)

-- (rule T2) the code of a word
unfoldable pub word_from : ℕ → List ℕ → ℕ
word_from v [] = v
word_from v (b ∷ bs) = word_from (spelt v b) bs

unfoldable pub word_of : String → ℕ
word_of t = word_from 0 (bytes t)

-- (rule T7) groups in brackets that fit in a line: " (# #)" has 6 bytes at least, so 64 are more than any line has
unfoldable pub most_groups : ℕ
most_groups = 64
