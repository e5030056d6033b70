-- Laws of the readers: ranges of bytes, runs, one piece of a pattern, and what is left of a pattern.
use Prim.Native.Nat.{ℕ, ◌≤◌, ◌<◌, ◌+◌}
use Prim.Native.String.{String}
use native.Mathlib.Numerals.{add-one}
use native.Mathlib.Omega.{arith}
use mathlib.Core.Bool.{true, false, Bool, cond, ◌&&◌}
use mathlib.Core.List.{List, [], ◌∷◌}
use mathlib.Core.Path.{◌≡◌, refl, ap, sym, ◌∙◌}
use lib.Dec.{leb, ltb, eqb}
use lib.ListN.{length, get_or, drop, drop_of_length-le, get_or-eq_default}
use lib.Seq.{drop-cons}
use borrow.Author.Tests.{le-leb, lt-leb, leb-true, ne_eqb, le-ltb, lt-ltb, eq-eqb, eqb-true}
use Rattle.rows.proofs.Bools.{clash, and_l, and_r}
use Rattle.rows.specs.Lists.{between, bytes}
use Rattle.text.specs.Patterns.{is_digit, is_letter, run, number, bad, counted, digits, word, worded, letters, itself, passed, piece, pieces, began, form}
use Rattle.text.specs.declared.Read.{Read}

-- ---- ranges of bytes
pub within : (lo hi b : ℕ) → lo ≤ b → b ≤ hi → between lo hi b ≡ true
unfolding between
within lo hi b p q = rw (le-leb lo b p, le-leb b hi q)

pub under : (lo hi b : ℕ) → b < lo → between lo hi b ≡ false
unfolding between
under lo hi b p = rw (lt-leb lo b p)

pub over : (lo hi b : ℕ) → lo ≤ b → hi < b → between lo hi b ≡ false
unfolding between
over lo hi b p q = rw (le-leb lo b p, lt-leb b hi q)

low_of : (lo hi b : ℕ) → between lo hi b ≡ true → lo ≤ b
unfolding between
low_of lo hi b e = leb-true lo b (and_l (leb lo b) (leb b hi) e)

pub high-of : (lo hi b : ℕ) → between lo hi b ≡ true → b ≤ hi
unfolding between
high-of lo hi b e = leb-true b hi (and_r (leb lo b) (leb b hi) e)

pub digit_low : (b : ℕ) → is_digit b ≡ true → 48 ≤ b
unfolding is_digit
digit_low b e = low_of 48 57 b e

pub letter-low : (b : ℕ) → is_letter b ≡ true → 97 ≤ b
unfolding is_letter
letter-low b e = low_of 97 122 b e

-- ---- a run: what is left decides the whole
module _ (test : ℕ → Bool) (more : ℕ → ℕ → ℕ) (v i : ℕ) (s : List ℕ) where
  pub run_more : i < length s → test (get_or s i 0) ≡ true → run test more v i (drop i s) ≡ run test more (more v (get_or s i 0)) (i + 1) (drop (i + 1) s)
  unfolding run
  run_more h e = rw (add-one, drop-cons s i 0 h, e)

  pub run-stops : i < length s → test (get_or s i 0) ≡ false → run test more v i (drop i s) ≡ record { value = v; next = i }
  unfolding run
  run-stops h e = rw (drop-cons s i 0 h, e)

  pub run_ends : length s ≤ i → run test more v i (drop i s) ≡ record { value = v; next = i }
  unfolding run
  run_ends h = rw (drop_of_length-le s h)

-- ---- one piece of a pattern
module _ (s : List ℕ) (r : Read) where
  past : length s ≤ r.next → get_or s r.next 0 ≡ 0
  past h = get_or-eq_default s 0 h

  pub number-end : length s ≤ r.next → number s r ≡ bad
  unfolding number is_digit between
  number-end h = rw (past h)

  pub number-zero : get_or s r.next 0 ≡ 48 → number s r ≡ counted r (record { value = 0; next = r.next + 1 })
  unfolding number
  number-zero e = rw e

  pub number-run : 49 ≤ get_or s r.next 0 → get_or s r.next 0 ≤ 57 → number s r ≡ counted r (digits s r.next)
  unfolding number is_digit
  number-run p q = rw (ne_eqb (get_or s r.next 0) 48 (λ e. omega arith), within 48 57 (get_or s r.next 0) (omega arith) q)

  pub number-low : get_or s r.next 0 < 48 → number s r ≡ bad
  unfolding number is_digit
  number-low p = rw (ne_eqb (get_or s r.next 0) 48 (λ e. omega arith), under 48 57 (get_or s r.next 0) p)

  pub number-high : 57 < get_or s r.next 0 → number s r ≡ bad
  unfolding number is_digit
  number-high p = rw (ne_eqb (get_or s r.next 0) 48 (λ e. omega arith), over 48 57 (get_or s r.next 0) (omega arith) p)

  pub word_end : length s ≤ r.next → word s r ≡ bad
  unfolding word is_letter between
  word_end h = rw (past h)

  pub word-run : 97 ≤ get_or s r.next 0 → get_or s r.next 0 ≤ 122 → word s r ≡ worded r (letters s r.next)
  unfolding word is_letter
  word-run p q = rw (within 97 122 (get_or s r.next 0) p q)

  pub word_low : get_or s r.next 0 < 97 → word s r ≡ bad
  unfolding word is_letter
  word_low p = rw (under 97 122 (get_or s r.next 0) p)

  pub word-high : 122 < get_or s r.next 0 → word s r ≡ bad
  unfolding word is_letter
  word-high p = rw (over 97 122 (get_or s r.next 0) (omega arith) p)

  pub byte-end : (p : ℕ) → length s ≤ r.next → itself s r p ≡ bad
  unfolding itself
  byte-end p h = rw (le-ltb r.next (length s) h)

  pub byte-same : (p : ℕ) → r.next < length s → get_or s r.next 0 ≡ p → itself s r p ≡ passed r
  unfolding itself
  byte-same p h e = rw (lt-ltb r.next (length s) h, eq-eqb (get_or s r.next 0) p e)

  pub byte-other : (p : ℕ) → r.next < length s → (get_or s r.next 0 ≡ p → ⊥) → itself s r p ≡ bad
  unfolding itself
  byte-other p h e = rw (lt-ltb r.next (length s) h, ne_eqb (get_or s r.next 0) p e)

  pub piece-bad : (p : ℕ) → r.good ≡ false → piece s r p ≡ r
  unfolding piece
  piece-bad p e = rw e

  pub piece-number : (p : ℕ) → r.good ≡ true → p ≡ 35 → piece s r p ≡ number s r
  unfolding piece
  piece-number p e q = rw (e, q)

  pub piece-word : (p : ℕ) → r.good ≡ true → p ≡ 64 → piece s r p ≡ word s r
  unfolding piece
  piece-word p e q = rw (e, q)

  pub piece_byte : (p : ℕ) → r.good ≡ true → (p ≡ 35 → ⊥) → (p ≡ 64 → ⊥) → piece s r p ≡ itself s r p
  unfolding piece
  piece_byte p e q o = rw (e, ne_eqb p 35 q, ne_eqb p 64 o)

-- ---- a pattern: what is left decides the whole
pub pieces_more : (s : List ℕ) (r : Read) (t : List ℕ) (k : ℕ) → k < length t → pieces s r (drop k t) ≡ pieces s (piece s r (get_or t k 0)) (drop (k + 1) t)
unfolding pieces
pieces_more s r t k h = rw (add-one, drop-cons t k 0 h)

pub pieces_end : (s : List ℕ) (r : Read) (t : List ℕ) (k : ℕ) → length t ≤ k → pieces s r (drop k t) ≡ r
unfolding pieces
pieces_end s r t k h = rw (drop_of_length-le t h)

-- after a piece that is not found nothing more is read
pub pieces-bad : (s : List ℕ) (r : Read) (t : List ℕ) → r.good ≡ false → pieces s r t ≡ r
unfolding pieces
pieces-bad s r [] e = refl
pieces-bad s r (p ∷ ps) e = rw (piece-bad s r p e) (pieces-bad s r ps e)

-- a pattern in a local
pub form_of : (s : List ℕ) (i : ℕ) (t : List ℕ) (p : String) → t ≡ bytes p → pieces s (began i) t ≡ form s i p
unfolding form
form_of s i t p e = ap (λ (x : List ℕ). pieces s (began i) x) e

-- ---- patterns that begin with a bracket differ in what follows it
-- what was read whole was read so far
pub second-piece : (s : List ℕ) (p : ℕ) (ps : List ℕ) → (pieces s (began 0) (40 ∷ p ∷ ps)).good ≡ true → (piece s (passed (began 0)) p).good ≡ true
unfolding pieces piece itself began passed bad
second-piece s p ps e = pick (ltb 0 (length s) && eqb (get_or s 0 0) 40) e
  where
    pick : (x : Bool) → (pieces s (piece s (cond x (passed (began 0)) bad) p) ps).good ≡ true → (piece s (passed (began 0)) p).good ≡ true
    pick false g = clash g (ap (λ (r : Read). r.good) (pieces-bad s bad ps refl))
    pick true g = then (piece s (passed (began 0)) p).good refl g
      where
        then : (y : Bool) → (piece s (passed (began 0)) p).good ≡ y → (pieces s (piece s (passed (began 0)) p) ps).good ≡ true → y ≡ true
        then true q g = refl
        then false q g = clash g (ap (λ (r : Read). r.good) (pieces-bad s (piece s (passed (began 0)) p) ps q) ∙ q)

pub second-byte : (s : List ℕ) (b : ℕ) (ps : List ℕ) → (b ≡ 35 → ⊥) → (b ≡ 64 → ⊥) → (pieces s (began 0) (40 ∷ b ∷ ps)).good ≡ true → get_or s 1 0 ≡ b
unfolding began passed bad itself
second-byte s b ps h k e = pick (ltb 1 (length s) && eqb (get_or s 1 0) b) refl (sym (ap (λ (r : Read). r.good) (piece_byte s (passed (began 0)) b refl h k)) ∙ second-piece s b ps e)
  where
    pick : (y : Bool) → ltb 1 (length s) && eqb (get_or s 1 0) b ≡ y → (cond y (passed (passed (began 0))) bad).good ≡ true → get_or s 1 0 ≡ b
    pick true r g = eqb-true (get_or s 1 0) b (and_r (ltb 1 (length s)) (eqb (get_or s 1 0) b) r)
    pick false r g = clash g refl
