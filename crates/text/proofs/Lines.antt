-- Lines of a text at its line feeds: bytes without one belong to the first line of what follows; a line feed ends the line.
use Prim.Native.Nat.{ℕ, zero, suc, ◌+◌, ◌/◌, ◌%◌, ◌<◌}
use native.Mathlib.Decide.{dec_lt}
use native.Mathlib.Omega.{arith}
use mathlib.Core.Bool.{Bool, true, not}
use mathlib.Core.List.{List, [], ◌∷◌, ◌++◌, append-nil}
use mathlib.Core.Path.{◌≡◌, refl, sym, ap, ◌∙◌}
use lib.Dec.{eqb}
use lib.ListN.{length, take}
use borrow.Author.Tests.{ne_eqb}
use Rattle.rows.specs.Lists.{all}
use Rattle.rows.proofs.Bools.{and_l, and_r, and_i, not_t}
use Rattle.text.specs.Opening.{with_byte, lines_of}
use Rattle.text.specs.Answers.{decimal, digits_of}
use Rattle.text.proofs.ReplyLaws.{decimal-more, decimal-one}

-- ---- bytes without a line feed belong to the first line of what follows
unfoldable pub plain : List ℕ → Bool
plain l = all (λ b. not (eqb b 10)) l

unfoldable pub head_of : List (List ℕ) → List ℕ
head_of [] = []
head_of (l ∷ ls) = l

unfoldable pub tail_of : List (List ℕ) → List (List ℕ)
tail_of [] = []
tail_of (l ∷ ls) = ls

pub with-byte : (b : ℕ) → not (eqb b 10) ≡ true → (ls : List (List ℕ)) → with_byte b ls ≡ (b ∷ head_of ls) ∷ tail_of ls
unfolding with_byte head_of tail_of
with-byte b e [] = refl
with-byte b e (l ∷ ls) = rw (not_t (eqb b 10) e)

pub lines-plain : (b : ℕ) (l y : List ℕ) → plain (b ∷ l) ≡ true → lines_of ((b ∷ l) ++ y) ≡ ((b ∷ l) ++ head_of (lines_of y)) ∷ tail_of (lines_of y)
unfolding lines_of plain all head_of tail_of
lines-plain b [] y e = with-byte b (and_l (not (eqb b 10)) true e) (lines_of y)
lines-plain b (c ∷ l) y e =
    let older = lines-plain c l y (and_r (not (eqb b 10)) (plain (c ∷ l)) e) in
    ap (with_byte b) older ∙ with-byte b (and_l (not (eqb b 10)) (plain (c ∷ l)) e) (((c ∷ l) ++ head_of (lines_of y)) ∷ tail_of (lines_of y))

pub plain-append : (l m : List ℕ) → plain l ≡ true → plain m ≡ true → plain (l ++ m) ≡ true
unfolding plain all
plain-append [] m e f = f
plain-append (b ∷ l) m e f = and_i (not (eqb b 10)) (plain (l ++ m)) (and_l (not (eqb b 10)) (plain l) e) (plain-append l m (and_r (not (eqb b 10)) (plain l) e) f)

pub plain-take : (n : ℕ) (l : List ℕ) → plain l ≡ true → plain (take n l) ≡ true
unfolding plain all
plain-take zero l e = refl
plain-take (suc n) [] e = refl
plain-take (suc n) (b ∷ l) e = and_i (not (eqb b 10)) (plain (take n l)) (and_l (not (eqb b 10)) (plain l) e) (plain-take n l (and_r (not (eqb b 10)) (plain l) e))

pub plain_byte : (b : ℕ) → not (eqb b 10) ≡ true → plain (b ∷ []) ≡ true
unfolding plain all
plain_byte b e = and_i (not (eqb b 10)) true e refl

-- the digits of a number
plain-digit : (n : ℕ) → plain ((48 + n % 10) ∷ []) ≡ true
plain-digit n = plain_byte (48 + n % 10) (rw (ne_eqb (48 + n % 10) 10 (λ e. omega arith)) refl)

plain-decimal : (d n : ℕ) → plain (decimal d n) ≡ true
unfolding decimal plain all
plain-decimal zero n = refl
plain-decimal (suc d) n = elim (dec_lt n 10) [
  | yes one ↦ ap plain (decimal-one d n one) ∙ plain-digit n
  | no more ↦ ap plain (decimal-more d n (omega arith)) ∙ plain-append (decimal d (n / 10)) ((48 + n % 10) ∷ []) (plain-decimal d (n / 10)) (plain-digit n)
]

pub plain-digits : (n : ℕ) → plain (digits_of n) ≡ true
unfolding digits_of
plain-digits n = plain-decimal 10 n

-- ---- a line feed ends the line
feed-first : (y : List ℕ) → lines_of (10 ∷ y) ≡ (10 ∷ []) ∷ lines_of y
unfolding lines_of with_byte
feed-first y = pick (lines_of y)
  where
    pick : (ls : List (List ℕ)) → with_byte 10 ls ≡ (10 ∷ []) ∷ ls
    pick [] = refl
    pick (l ∷ ls) = refl

pub line-ends : (l y : List ℕ) → plain l ≡ true → lines_of (l ++ (10 ∷ y)) ≡ (l ++ (10 ∷ [])) ∷ lines_of y
unfolding head_of tail_of
line-ends [] y e = feed-first y
line-ends (c ∷ l) y e = rw (lines-plain c l (10 ∷ y) e, feed-first y)

pub plain-one : (l : List ℕ) → plain l ≡ true → 0 < length l → lines_of l ≡ l ∷ []
unfolding lines_of head_of tail_of
plain-one [] e h = absurd (omega arith)
plain-one (c ∷ l) e h = ap lines_of (sym (append-nil (c ∷ l))) ∙ lines-plain c l [] e ∙ ap (λ m. m ∷ []) (append-nil (c ∷ l))
