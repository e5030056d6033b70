-- A line that comes byte by byte: lines across the bytes read and the bytes to come, and what is kept of them.
use Prim.Native.Nat.{ℕ, suc, ◌+◌, ◌<◌, ◌≤◌}
use native.Mathlib.Numerals.{add-one}
use native.Mathlib.Omega.{arith}
use mathlib.Core.Bool.{Bool, true, false, not}
use mathlib.Core.List.{List, [], ◌∷◌, ◌++◌, map, append_assoc}
use mathlib.Core.Path.{◌≡◌, refl, sym, ap, ◌∙◌}
use lib.Dec.{eqb, ltb}
use lib.ListN.{length, set, take, length-append, length-take}
use lib.Seq.{take_all, length-take-le, take-append-le, take-suc-set}
use borrow.Author.Tests.{lt-ltb, ltb-true, ltb-false}
use Rattle.rows.specs.Limits.{most_bytes}
use Rattle.text.specs.declared.Reading.TheVariants.{Refused}
use Rattle.text.specs.CallLines.{reading_of}
use Rattle.text.specs.Opening.{lines_of, kept_of_line, cut, line_of, bad_line}
use Rattle.text.specs.vocabulary.Sizes.{KEPT-LINE, text-sizes-meant}
use Rattle.text.proofs.Lines.{plain, head_of, tail_of, with-byte, lines-plain, plain-append, plain-take, line-ends, plain-one}

-- ---- what is kept of a line
pub cut_all : (l : List ℕ) → length l ≤ kept_of_line → cut l ≡ l
unfolding cut
cut_all l h = take_all kept_of_line l h

-- a line that is full keeps no more
pub cut-full : (l m : List ℕ) → length l ≡ kept_of_line → cut (l ++ m) ≡ l
unfolding cut
cut-full l m h = take-append-le kept_of_line l m (omega arith) ∙ take_all kept_of_line l (omega arith)

pub cut-length : (l : List ℕ) → length (cut l) ≤ kept_of_line
unfolding cut
cut-length l = simp length-take (omega arith)

cut-long : (l : List ℕ) → kept_of_line < length l → suc most_bytes < length (cut l)
unfolding cut kept_of_line
cut-long l h = let e = length-take-le (suc (suc most_bytes)) l (omega arith) in omega arith

long-too : (l : List ℕ) → kept_of_line < length l → suc most_bytes < length l
unfolding kept_of_line
long-too l h = omega arith

-- what is the same of all lines that are too long does not change when they are cut
cut-same : {A : Type 0} (f : List ℕ → A) (x : A) → ((l : List ℕ) → suc most_bytes < length l → f l ≡ x) → (l : List ℕ) → f (cut l) ≡ f l
cut-same f x long l = pick (ltb kept_of_line (length l)) refl
  where
    pick : (b : Bool) → ltb kept_of_line (length l) ≡ b → f (cut l) ≡ f l
    pick true e = let h = ltb-true kept_of_line (length l) e in long (cut l) (cut-long l h) ∙ sym (long l (long-too l h))
    pick false e = ap f (cut_all l (ltb-false kept_of_line (length l) e))

reading-long : (l : List ℕ) → suc most_bytes < length l → reading_of l ≡ Refused 2
unfolding reading_of
reading-long l h = rw (lt-ltb (suc most_bytes) (length l) h)

pub line-long : (l : List ℕ) → suc most_bytes < length l → line_of l ≡ bad_line
unfolding line_of
line-long l h = rw (lt-ltb (suc most_bytes) (length l) h)

pub reading-cut : (l : List ℕ) → reading_of (cut l) ≡ reading_of l
reading-cut l = cut-same reading_of (Refused 2) reading-long l

pub line-cut : (l : List ℕ) → line_of (cut l) ≡ line_of l
line-cut l = cut-same line_of bad_line line-long l

-- ---- what is kept of bytes without a line feed has none
pub plain-kept : (l m : List ℕ) → plain l ≡ true → plain m ≡ true → plain (cut (l ++ m)) ≡ true
unfolding cut
plain-kept l m e f = plain-take kept_of_line (l ++ m) (plain-append l m e f)

-- ---- a byte that is no line feed: the lines kept are the same, whether the line has room for it or not
-- of a full line nothing more is kept
full-first : (l z : List ℕ) → plain l ≡ true → length l ≡ kept_of_line → map cut (lines_of (l ++ z)) ≡ l ∷ map cut (tail_of (lines_of z))
unfolding kept_of_line
full-first [] z e h = absurd (omega arith)
full-first (c ∷ l) z e h = rw (lines-plain c l z e, cut-full (c ∷ l) (head_of (lines_of z)) h)

pub line-goes-on : (l y : List ℕ) (b : ℕ) → plain l ≡ true → length l ≤ kept_of_line → not (eqb b 10) ≡ true
    → map cut (lines_of (cut (l ++ (b ∷ [])) ++ y)) ≡ map cut (lines_of (l ++ (b ∷ y)))
unfolding lines_of tail_of
line-goes-on l y b e h n = pick (ltb (length l) kept_of_line) refl
  where
    pick : (x : Bool) → ltb (length l) kept_of_line ≡ x → map cut (lines_of (cut (l ++ (b ∷ [])) ++ y)) ≡ map cut (lines_of (l ++ (b ∷ y)))
    pick true q =
        let room = ltb-true (length l) kept_of_line q in
        let more : length (l ++ (b ∷ [])) ≡ length l + 1 = length-append l (b ∷ []) in
        rw (cut_all (l ++ (b ∷ [])) (omega arith), append_assoc l (b ∷ []) y)
    pick false q =
        let full : length l ≡ kept_of_line = (let most = ltb-false (length l) kept_of_line q in omega arith) in
        rw (cut-full l (b ∷ []) full) (full-first l y e full ∙ sym (full-first l (b ∷ y) e full ∙ ap (λ ls. l ∷ map cut (tail_of ls)) (with-byte b n (lines_of y))))

-- ---- a line feed ends the line
-- a line that is kept when it has ended, whole or cut
pub record KeptLine (l : List ℕ) : Type 0 where
  pub one : lines_of l ≡ l ∷ []
  pub ends : length l ≤ suc most_bytes → (z : List ℕ) → lines_of (l ++ z) ≡ l ∷ lines_of z

pub line_kept : (l : List ℕ) → plain l ≡ true → length l ≤ kept_of_line → KeptLine (cut (l ++ (10 ∷ [])))
unfolding kept_of_line lines_of
line_kept l e h = pick (ltb (length l) kept_of_line) refl
  where
    pick : (x : Bool) → ltb (length l) kept_of_line ≡ x → KeptLine (cut (l ++ (10 ∷ [])))
    pick true q =
        let room = ltb-true (length l) kept_of_line q in
        let more : length (l ++ (10 ∷ [])) ≡ length l + 1 = length-append l (10 ∷ []) in
        rw (cut_all (l ++ (10 ∷ [])) (omega arith))
        (record { one = line-ends l [] e; ends = λ few z. ap lines_of (append_assoc l (10 ∷ []) z) ∙ line-ends l z e })
    pick false q =
        let full : length l ≡ suc (suc most_bytes) = (let most = ltb-false (length l) kept_of_line q in omega arith) in
        rw (cut-full l (10 ∷ []) full) (record { one = plain-one l e (omega arith); ends = λ few z. absurd (omega arith) })

-- ---- the end of the input
pub lines_left : (l : List ℕ) → plain l ≡ true → (length l ≡ 0 → ⊥) → lines_of l ≡ l ∷ []
lines_left l e h = plain-one l e (omega arith)

-- ---- a byte is kept
-- a full line stays
pub kept_full : (l : List ℕ) (n b : ℕ) → n ≡ KEPT-LINE → n ≤ length l → take n l ≡ cut (take n l ++ (b ∷ []))
kept_full l n b full h = let long = length-take-le n l h in sym (cut-full (take n l) (b ∷ []) (long ∙ full ∙ text-sizes-meant.kept_line))

-- a line with room has a byte more
pub kept_more : (l : List ℕ) (n b : ℕ) → n < KEPT-LINE → n < length l → take (n + 1) (set l n b) ≡ cut (take n l ++ (b ∷ []))
kept_more l n b room h =
    let long = length-take-le n l (omega arith) in
    let more = length-append (take n l) (b ∷ []) in
    let size = text-sizes-meant.kept_line in
    rw add-one (take-suc-set l n b h) ∙ sym (cut_all (take n l ++ (b ∷ [])) (omega arith))
