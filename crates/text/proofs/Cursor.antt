-- Where a reader stands in a text: what is left of it, and what one piece of a pattern reads there.
use Prim.Native.Nat.{ℕ, suc, ◌+◌, ◌^◌, ◌≤◌, ◌<◌}
use native.Mathlib.Omega.{arith}
use mathlib.Core.Path.{◌≡◌, refl, sym, ap, ◌∙◌}
use mathlib.Core.Bool.{Bool, true, false, cond}
use mathlib.Core.List.{List, [], ◌∷◌, ◌++◌}
use lib.Dec.{eqb}
use lib.ListN.{length, get_or, drop, length-append}
use lib.Seq.{get_or-drop, drop-drop, drop-append_seam}
use borrow.Author.Tests.{lt-ltb, eq-eqb, eqb-true}
use Rattle.rows.specs.Lists.{all}
use Rattle.rows.specs.Limits.{greatest_number}
use Rattle.rows.proofs.Bools.{and_l, and_r}
use Rattle.text.specs.declared.Read.{Read}
use Rattle.text.specs.Patterns.{is_digit, is_letter, grown, spelt, run, digits, letters, bad, counted, worded, passed, number, word, itself, piece, pieces, whole, word_from}
use Rattle.text.specs.Answers.{decimal, digits_of}
use Rattle.text.proofs.Answers.{run-decimal, leads-decimal, run_ends}

-- ---- where the reader stands
-- u is what is left of s from position i on
pub record At (s : List ℕ) (i : ℕ) (u : List ℕ) : Type 0 where
  pub rest : drop i s ≡ u
  pub size : i + length u ≡ length s

pub at-start : (s : List ℕ) → At s 0 s
at-start s = record { rest = refl; size = omega arith }

pub at-skip : (s : List ℕ) (i : ℕ) (xs u : List ℕ) → At s i (xs ++ u) → At s (i + length xs) u
at-skip s i xs u a =
    record {
      rest = sym (drop-drop (length xs) i s) ∙ ap (λ (l : List ℕ). drop (length xs) l) a.rest ∙ drop-append_seam xs u;
      size = let e = a.size in let l = length-append xs u in omega arith;
    }

pub at_next : (s : List ℕ) (i b : ℕ) (u : List ℕ) → At s i (b ∷ u) → At s (i + 1) u
at_next s i b u a = at-skip s i (b ∷ []) u a

pub at_first : (s : List ℕ) (i : ℕ) (u : List ℕ) → At s i u → get_or s i 0 ≡ get_or u 0 0
at_first s i u a = let e : i ≡ i + 0 = omega arith in ap (λ (k : ℕ). get_or s k 0) e ∙ sym (get_or-drop i s 0 0) ∙ ap (λ (l : List ℕ). get_or l 0 0) a.rest

at-inside : (s : List ℕ) (i b : ℕ) (u : List ℕ) → At s i (b ∷ u) → i < length s
at-inside s i b u a = let e = a.size in omega arith

-- ---- one piece
-- what is read so far, and all is well
abbrev pub reading : ℕ → ℕ → ℕ → ℕ → ℕ → Read
reading i w x y z = record { good = true; next = i; word = w; a = x; b = y; c = z }

module _ (s : List ℕ) (i w x y z : ℕ) where
  -- a byte of the pattern
  pub takes-byte : (b : ℕ) (u : List ℕ) → At s i (b ∷ u) → eqb b 35 ≡ false → eqb b 64 ≡ false → piece s (reading i w x y z) b ≡ reading (i + 1) w x y z
  unfolding piece itself passed
  takes-byte b u a q o = rw (q, o, lt-ltb i (length s) (at-inside s i b u a), eq-eqb (get_or s i 0) b (at_first s i (b ∷ u) a)) refl

  -- another byte than that of the pattern
  pub other_byte : (b p : ℕ) (u : List ℕ) → At s i (b ∷ u) → eqb b p ≡ false → eqb p 35 ≡ false → eqb p 64 ≡ false → piece s (reading i w x y z) p ≡ bad
  unfolding piece itself passed
  other_byte b p u a d q o = rw (q, o, lt-ltb i (length s) (at-inside s i b u a), at_first s i (b ∷ u) a, d) refl

  -- no digit where the pattern has a number
  pub no_number : (b : ℕ) (u : List ℕ) → At s i (b ∷ u) → is_digit b ≡ false → eqb b 48 ≡ false → piece s (reading i w x y z) 35 ≡ bad
  unfolding piece number
  no_number b u a d q = rw (at_first s i (b ∷ u) a, q, d) refl

  -- the digits of a number, and no digit after them
  pub takes-number : (n : ℕ) (u : List ℕ) → At s i (digits_of n ++ u) → n ≤ greatest_number → is_digit (get_or u 0 0) ≡ false
      → piece s (reading i w x y z) 35 ≡ reading (i + length (digits_of n)) w y z n
  unfolding piece number counted digits grown digits_of decimal greatest_number
  takes-number n u a h e =
      let lt : n < 10 ^ 10 = omega arith in
      let l = leads-decimal 9 n u lt in
      let worth : run is_digit grown 0 i (drop i s) ≡ record { value = n; next = i + length (decimal 10 n) } =
      ap (λ (t : List ℕ). run is_digit grown 0 i t) a.rest ∙ run-decimal (suc greatest_number) 10 n i u lt (omega arith) ∙ run_ends is_digit grown n (i + length (decimal 10 n)) u e in
      rw (at_first s i (decimal 10 n ++ u) a, l.zeros, l.digit) (pick worth (eqb n 0) refl)
    where
      pick : run is_digit grown 0 i (drop i s) ≡ record { value = n; next = i + length (decimal 10 n) } → (t : Bool) → eqb n 0 ≡ t
          → cond t (counted (reading i w x y z) (record { value = 0; next = i + 1 })) (counted (reading i w x y z) (run is_digit grown 0 i (drop i s)))
          ≡ reading (i + length (decimal 10 n)) w y z n
      pick worth true q = rw (eqb-true n 0 q) refl
      pick worth false q = ap (λ v. counted (reading i w x y z) v) worth

-- a word's letters, and no letter after them
run-letters : (ws u : List ℕ) (v i : ℕ) → all is_letter ws ≡ true → is_letter (get_or u 0 0) ≡ false → run is_letter spelt v i (ws ++ u) ≡ record { value = word_from v ws; next = i + length ws }
unfolding run all word_from
run-letters [] u v i l e = let z : i + 0 ≡ i = omega arith in rw z (run_ends is_letter spelt v i u e)
run-letters (b ∷ ws) u v i l e =
    let j : suc i + length ws ≡ i + suc (length ws) = omega arith in
    rw (and_l (is_letter b) (all is_letter ws) l) (run-letters ws u (spelt v b) (suc i) (and_r (is_letter b) (all is_letter ws) l) e ∙ (rw j refl))

pub takes-word : (s : List ℕ) (i w x y z b : ℕ) (ws u : List ℕ) → At s i ((b ∷ ws) ++ u) → all is_letter (b ∷ ws) ≡ true → is_letter (get_or u 0 0) ≡ false
    → piece s (reading i w x y z) 64 ≡ reading (i + length (b ∷ ws)) (word_from 0 (b ∷ ws)) x y z
unfolding piece word worded letters all
takes-word s i w x y z b ws u a l e =
    let first : is_letter b ≡ true = and_l (is_letter b) (all is_letter ws) l in
    let worth = ap (λ (t : List ℕ). run is_letter spelt 0 i t) a.rest ∙ run-letters (b ∷ ws) u 0 i l e in
    rw (at_first s i ((b ∷ ws) ++ u) a, first) (ap (λ v. worded (reading i w x y z) v) worth)

-- ---- a pattern, piece by piece
pub then-reads : (s : List ℕ) (r r' f : Read) (p : ℕ) (ps : List ℕ) → piece s r p ≡ r' → pieces s r' ps ≡ f → pieces s r (p ∷ ps) ≡ f
unfolding pieces
then-reads s r r' f p ps e h = ap (λ (x : Read). pieces s x ps) e ∙ h

pub reads_all : (s : List ℕ) (r : Read) → pieces s r [] ≡ r
unfolding pieces
reads_all s r = refl

stays-bad : (s : List ℕ) (ps : List ℕ) → pieces s bad ps ≡ bad
unfolding pieces piece bad
stays-bad s [] = refl
stays-bad s (p ∷ ps) = stays-bad s ps

pub then-bad : (s : List ℕ) (r : Read) (p : ℕ) (ps : List ℕ) → piece s r p ≡ bad → pieces s r (p ∷ ps) ≡ bad
then-bad s r p ps e = then-reads s r bad bad p ps e (stays-bad s ps)

-- ---- a whole form
pub ends : (s : List ℕ) (i w x y z : ℕ) → At s i [] → whole s (reading i w x y z) ≡ true
unfolding whole
ends s i w x y z a = let e = a.size in eq-eqb i (length s) (omega arith)
