-- Forms as text: how long numbers, entries and lines are, and entries one after the other.
use Prim.Native.Nat.{ℕ, zero, suc, ◌+◌, ◌/◌, ◌%◌, ◌^◌, ◌≤◌, ◌<◌}
use native.Mathlib.Omega.{arith}
use mathlib.Core.Bool.{Bool, true, false, cond}
use mathlib.Core.List.{List, [], ◌∷◌, ◌++◌, append_assoc, append-nil}
use mathlib.Core.Path.{◌≡◌, refl, sym, ap, ◌∙◌}
use lib.Dec.{ltb}
use lib.ListN.{length, length-append}
use borrow.Author.Tests.{ltb-false}
use Rattle.calls.specs.Answers.{num}
use Rattle.text.specs.declared.Entry.{Entry}
use Rattle.text.specs.Answers.{decimal, digits_of, value_text, spaced}
use Rattle.joining.specs.Written.{entry_text, entries_text}

-- ---- numbers
few-digits : (k d n : ℕ) → n < 10 ^ suc k → length (decimal d n) ≤ suc k
unfolding decimal
few-digits k zero n h = omega arith
few-digits k (suc d) n h = pick k (ltb n 10) refl h (λ j. few-digits j d (n / 10))
  where
    pick : (k : ℕ) (b : Bool) → ltb n 10 ≡ b → n < 10 ^ suc k → ((j : ℕ) → n / 10 < 10 ^ suc j → length (decimal d (n / 10)) ≤ suc j)
        → length (cond b ((48 + n) ∷ []) (decimal d (n / 10) ++ ((48 + n % 10) ∷ []))) ≤ suc k
    pick k true e h ih = omega arith
    pick zero false e h ih = let big = ltb-false n 10 e in absurd (omega arith)
    pick (suc k) false e h ih =
        let less = ih k (omega arith) in
        let l = length-append (decimal d (n / 10)) ((48 + n % 10) ∷ []) in
        omega arith

pub digits-few : (k n : ℕ) → n < 10 ^ suc k → length (digits_of n) ≤ suc k
unfolding digits_of
digits-few k n h = few-digits k 10 n h

-- a space and a number below a power of ten
value-short : (k n : ℕ) → n < 10 ^ suc k → length (spaced (num n ∷ [])) ≤ suc (suc k)
unfolding spaced value_text
value-short k n h = let f = digits-few k n h in let e = ap length (append-nil (digits_of n)) in omega arith

pub one-digit : (n : ℕ) → n < 10 → length (spaced (num n ∷ [])) ≤ 2
one-digit n h = value-short 0 n (omega arith)

pub two_digits : (n : ℕ) → n < 100 → length (spaced (num n ∷ [])) ≤ 3
two_digits n h = value-short 1 n (omega arith)

pub three-digits : (n : ℕ) → n < 1000 → length (spaced (num n ∷ [])) ≤ 4
three-digits n h = value-short 2 n (omega arith)

-- ---- entries one after the other
pub entries-snoc : (es : List Entry) (e : Entry) → entries_text (es ++ (e ∷ [])) ≡ entries_text es ++ entry_text e
unfolding entries_text
entries-snoc [] e = append-nil (entry_text e)
entries-snoc (d ∷ es) e = ap (λ (l : List ℕ). entry_text d ++ l) (entries-snoc es e) ∙ sym (append_assoc (entry_text d) (entries_text es) (entry_text e))
