-- Bits of words of any width: the one at a place, one more set, all turned round, counted, the lowest that is set; and the marks that words hold.
use Prim.Native.Nat.{ℕ, zero, suc, ◌+◌, ◌-◌, ◌*◌, ◌/◌, ◌%◌, ◌^◌, ◌≤◌, ◌<◌, max}
use mathlib.Core.Bool.{Bool, true, false, not, cond, ◌||◌}
use mathlib.Core.List.{List, [], ◌∷◌, ◌++◌}
use mathlib.Core.Path.{◌≡◌, refl, ap, ap₂, sym, subst, ◌∙◌}
use native.Mathlib.Nat.{not-suc-le-zero, le_of_suc-le-suc, le_of_lt, zero-div, div-one, pow-suc, mul-div_cancel, mul-mod_left, max-zero, mod-one, div-add-mod', mod-lt, add-zero, zero-lt-suc, le_refl, mod-eq_of_lt, div-eq_of_lt, lt_of_lt_of_le, mul-le-mul_right, div-mul-le_self}
use mathlib.Core.Logic.{◌≢◌}
use native.Mathlib.Decide.{dec_lt}
use native.Mathlib.Omega.{arith}
use lib.Dec.{eqb, eqb-zero-suc, eqb-suc-zero, eqb-suc-suc, lit<}
use lib.Arith.{digits_div, digits_mod}
use lib.Pow.{pow_pos, pow_mono, shr-shr, shl_exact, mod-pow-add}
use lib.Bits.{bit_or, or_step, or_zero_r}
use lib.Count.{ones, count_trailing_zeros, under, ones_cat}
use borrow.Author.Count.{below_more}
use lib.ListN.{length, get_or, set, replicate, length-append, length-set, get_or-append}
use lib.Seq.{get_or-append-add, set-append_left, get_or-set_same, get_or-set_other, set_out}
use Rattle.rows.proofs.Lists.{same-everywhere}
use Rattle.changes.specs.vocabulary.Bits.{bit, bits_of, marks_by, gones}

-- ---- a bit of a word
pub bit-first : (w : ℕ) → bit w 0 ≡ eqb (w % 2) 1
unfolding bit
bit-first w = ap (λ (x : ℕ). eqb (x % 2) 1) (div-one w)

pub bit-next : (w k : ℕ) → bit w (suc k) ≡ bit (w / 2) k
unfolding bit
bit-next w k =
    let e : 1 + k ≡ suc k = omega arith in
    sym (ap (λ (x : ℕ). eqb (x % 2) 1) (shr-shr w 1 k ∙ ap (λ (n : ℕ). w / 2 ^ n) e))

pub bit_shifted : (w r k : ℕ) → bit (w / 2 ^ r) k ≡ bit w (r + k)
unfolding bit
bit_shifted w r k = ap (λ (x : ℕ). eqb (x % 2) 1) (shr-shr w r k)

pub bit-none : (k : ℕ) → bit 0 k ≡ false
unfolding bit
bit-none k = ap (λ (x : ℕ). eqb (x % 2) 1) (zero-div (2 ^ k))

-- past its width a word has no bit
pub bit_past : (k w i : ℕ) → w < 2 ^ k → k ≤ i → bit w i ≡ false
unfolding bit
bit_past k w i h far = let p : 2 ^ k ≤ 2 ^ i = pow_mono far in ap (λ (x : ℕ). eqb (x % 2) 1) (div-eq_of_lt {n = w} {m = 2 ^ i} (omega arith))

-- a digit is 0 or 1
digit : (P : ℕ → Type 0) → P 0 → P 1 → (d : ℕ) → d < 2 → P d
digit P z o zero h = z
digit P z o (suc zero) h = o
digit P z o (suc (suc d)) h = absurd (omega arith)

two : zero < 2
two = zero-lt-suc 1

pub bit-even : (w k : ℕ) → w / 2 ^ k % 2 ≡ 0 → bit w k ≡ false
unfolding bit
bit-even w k e = ap (λ (d : ℕ). eqb d 1) e

pub bit-odd : (w k : ℕ) → w / 2 ^ k % 2 ≢ 0 → bit w k ≡ true
unfolding bit
bit-odd w k = digit (λ (d : ℕ). d ≢ 0 → eqb d 1 ≡ true) (λ h. absurd (h refl)) (λ h. refl) (w / 2 ^ k % 2) (mod-lt (w / 2 ^ k) two)

-- ---- all bits
pub length-bits : (k w : ℕ) → length (bits_of k w) ≡ k
unfolding bits_of
length-bits zero w = refl
length-bits (suc k) w = ap suc (length-bits k (w / 2))

pub bits_at : (k w i : ℕ) → i < k → get_or (bits_of k w) i false ≡ bit w i
unfolding bits_of
bits_at zero w i h = absurd (not-suc-le-zero h)
bits_at (suc k) w zero h = sym (bit-first w)
bits_at (suc k) w (suc i) h = bits_at k (w / 2) i (le_of_suc-le-suc h) ∙ sym (bit-next w i)

-- ---- one bit set
or-first : (w : ℕ) → bit_or w 1 ≡ w / 2 * 2 + 1
or-first w =
    or_step w 1 ∙ ap₂ (λ (x y : ℕ). x * 2 + y) (or_zero_r (w / 2)) (digit (λ (d : ℕ). max d 1 ≡ 1) refl refl (w % 2) (mod-lt w two))

-- half of a power of 2
half-power : (k : ℕ) → (2 ^ suc k / 2 ≡ 2 ^ k) × (2 ^ suc k % 2 ≡ 0)
half-power k =
    (ap (λ (x : ℕ). x / 2) (pow-suc 2 k) ∙ mul-div_cancel (2 ^ k) two, ap (λ (x : ℕ). x % 2) (pow-suc 2 k) ∙ mul-mod_left (2 ^ k) 2)

or-next : (w r : ℕ) → bit_or w (2 ^ suc r) ≡ bit_or (w / 2) (2 ^ r) * 2 + w % 2
or-next w r =
    let (half, even) = half-power r in
    or_step w (2 ^ suc r) ∙ ap₂ (λ (x y : ℕ). bit_or (w / 2) x * 2 + max (w % 2) y) half even ∙ ap (λ (x : ℕ). bit_or (w / 2) (2 ^ r) * 2 + x) (max-zero (w % 2))

pub bits-set : (k w r : ℕ) → r < k → bits_of k (bit_or w (2 ^ r)) ≡ set (bits_of k w) r true
unfolding bits_of
bits-set zero w r h = absurd (not-suc-le-zero h)
bits-set (suc k) w zero h =
    ap (λ (x : ℕ). eqb (x % 2) 1 ∷ bits_of k (x / 2)) (or-first w)
    ∙ ap₂ (λ (x y : ℕ). eqb x 1 ∷ bits_of k y) (digits_mod (w / 2) (omega arith)) (digits_div (w / 2) (omega arith))
bits-set (suc k) w (suc r) h =
    ap (λ (x : ℕ). eqb (x % 2) 1 ∷ bits_of k (x / 2)) (or-next w r)
    ∙ ap₂ (λ (x y : ℕ). eqb x 1 ∷ bits_of k y) (digits_mod (bit_or (w / 2) (2 ^ r)) (mod-lt w two)) (digits_div (bit_or (w / 2) (2 ^ r)) (mod-lt w two))
    ∙ ap (λ (l : List Bool). eqb (w % 2) 1 ∷ l) (bits-set k (w / 2) r (le_of_suc-le-suc h))

-- ---- the bits of two words together
two_digits : (P : ℕ → ℕ → Type 0) → P 0 0 → P 0 1 → P 1 0 → P 1 1 → (a b : ℕ) → P (a % 2) (b % 2)
two_digits P zz zo oz oo a b =
    digit (λ (x : ℕ). P x (b % 2)) (digit (P 0) zz zo (b % 2) (mod-lt b two)) (digit (P 1) oz oo (b % 2) (mod-lt b two)) (a % 2) (mod-lt a two)

pub bit-or : (a b k : ℕ) → bit (bit_or a b) k ≡ bit a k || bit b k
bit-or a b zero =
    bit-first (bit_or a b)
    ∙ ap (λ (x : ℕ). eqb (x % 2) 1) (or_step a b)
    ∙ ap (λ (x : ℕ). eqb x 1) (digits_mod (bit_or (a / 2) (b / 2)) (two_digits (λ x y. max x y < 2) (lit< tt) (lit< tt) (lit< tt) (lit< tt) a b))
    ∙ two_digits (λ x y. eqb (max x y) 1 ≡ eqb x 1 || eqb y 1) refl refl refl refl a b
    ∙ sym (ap₂ (λ x y. x || y) (bit-first a) (bit-first b))
bit-or a b (suc k) =
    bit-next (bit_or a b) k
    ∙ ap (λ (x : ℕ). bit (x / 2) k) (or_step a b)
    ∙ ap (λ (x : ℕ). bit x k) (digits_div (bit_or (a / 2) (b / 2)) (two_digits (λ x y. max x y < 2) (lit< tt) (lit< tt) (lit< tt) (lit< tt) a b))
    ∙ bit-or (a / 2) (b / 2) k
    ∙ sym (ap₂ (λ x y. x || y) (bit-next a k) (bit-next b k))

-- the one bit of a power of 2
pub bit-power : (k j : ℕ) → bit (2 ^ k) j ≡ eqb j k
bit-power zero zero = bit-first 1
bit-power zero (suc j) = bit-next 1 j ∙ bit-none j ∙ sym (eqb-suc-zero j)
bit-power (suc k) zero = bit-first (2 ^ suc k) ∙ ap (λ (x : ℕ). eqb x 1) (half-power k).1 ∙ sym (eqb-zero-suc k)
bit-power (suc k) (suc j) = bit-next (2 ^ suc k) j ∙ ap (λ (x : ℕ). bit x j) (half-power k).0 ∙ bit-power k j ∙ sym (eqb-suc-suc j k)

-- ---- all bits turned round
turned : (p w : ℕ) → w < 2 * p → ((2 * p - 1) - w) / 2 ≡ (p - 1) - w / 2
turned p w h = omega arith

turned-digit : (p w : ℕ) → w < 2 * p → ((2 * p - 1) - w) % 2 + w % 2 ≡ 1
turned-digit p w h = omega arith

other : (a b : ℕ) → a + b ≡ 1 → eqb a 1 ≡ not (eqb b 1)
other zero b e = let o : b ≡ 1 = omega arith in subst (λ (x : ℕ). eqb 0 1 ≡ not (eqb x 1)) (sym o) refl
other (suc zero) b e = let z : b ≡ 0 = omega arith in subst (λ (x : ℕ). eqb 1 1 ≡ not (eqb x 1)) (sym z) refl
other (suc (suc a)) b e = absurd (omega arith)

pub bit_not : (k w i : ℕ) → w < 2 ^ k → i < k → bit ((2 ^ k - 1) - w) i ≡ not (bit w i)
bit_not zero w i h lt = absurd (not-suc-le-zero lt)
bit_not (suc k) w zero h lt =
    let two-k : 2 ^ suc k ≡ 2 * 2 ^ k = omega arith in
    bit-first ((2 ^ suc k - 1) - w)
    ∙ other (((2 ^ suc k - 1) - w) % 2) (w % 2) (subst (λ (x : ℕ). ((x - 1) - w) % 2 + w % 2 ≡ 1) (sym two-k) (turned-digit (2 ^ k) w (omega arith)))
    ∙ ap not (sym (bit-first w))
bit_not (suc k) w (suc i) h lt =
    let two-k : 2 ^ suc k ≡ 2 * 2 ^ k = omega arith in
    bit-next ((2 ^ suc k - 1) - w) i
    ∙ ap (λ (x : ℕ). bit x i) (subst (λ (x : ℕ). ((x - 1) - w) / 2 ≡ (2 ^ k - 1) - w / 2) (sym two-k) (turned (2 ^ k) w (omega arith)))
    ∙ bit_not k (w / 2) i (omega arith) (le_of_suc-le-suc lt)
    ∙ ap not (sym (bit-next w i))

-- ---- the lowest bit that is set
pub low_clear : (k w i : ℕ) → i < count_trailing_zeros k w → bit w i ≡ false
unfolding count_trailing_zeros
low_clear zero w i h = absurd (not-suc-le-zero h)
low_clear (suc k) w i h = pick (λ j l. low_clear k (w / 2) j l) (w % 2) refl i h
  where
    pick : ((j : ℕ) → j < count_trailing_zeros k (w / 2) → bit (w / 2) j ≡ false)
        → (d : ℕ) → w % 2 ≡ d → (i : ℕ) → i < under d (count_trailing_zeros k (w / 2)) → bit w i ≡ false
    pick ih zero e zero lt = bit-first w ∙ ap (λ (x : ℕ). eqb x 1) e
    pick ih zero e (suc j) lt = bit-next w j ∙ ih j (le_of_suc-le-suc lt)
    pick ih (suc d) e i lt = absurd (not-suc-le-zero lt)

pub low-set : (k w : ℕ) → count_trailing_zeros k w < k → bit w (count_trailing_zeros k w) ≡ true
unfolding count_trailing_zeros
low-set zero w h = absurd (not-suc-le-zero h)
low-set (suc k) w h = pick (low-set k (w / 2)) (w % 2) refl (mod-lt w two) h
  where
    pick : (count_trailing_zeros k (w / 2) < k → bit (w / 2) (count_trailing_zeros k (w / 2)) ≡ true)
        → (d : ℕ) → w % 2 ≡ d → w % 2 < 2 → under d (count_trailing_zeros k (w / 2)) < suc k → bit w (under d (count_trailing_zeros k (w / 2))) ≡ true
    pick ih zero e few lt = bit-next w (count_trailing_zeros k (w / 2)) ∙ ih (le_of_suc-le-suc lt)
    pick ih (suc zero) e few lt = bit-first w ∙ ap (λ (x : ℕ). eqb x 1) e
    pick ih (suc (suc d)) e few lt = absurd (omega arith)

pub low-there : (k w : ℕ) → w < 2 ^ k → zero < w → count_trailing_zeros k w < k
unfolding count_trailing_zeros
low-there zero w h some = absurd (omega arith)
low-there (suc k) w h some = pick (low-there k (w / 2)) (w % 2) refl
  where
    pick : (w / 2 < 2 ^ k → zero < w / 2 → count_trailing_zeros k (w / 2) < k) → (d : ℕ) → w % 2 ≡ d → under d (count_trailing_zeros k (w / 2)) < suc k
    pick ih zero e = let t : count_trailing_zeros k (w / 2) < k = ih (omega arith) (omega arith) in omega arith
    pick ih (suc d) e = omega arith

-- ---- the marks that words hold
set-append-add : (xs ys : List Bool) (n : ℕ) (b : Bool) → set (xs ++ ys) (length xs + n) b ≡ xs ++ set ys n b
set-append-add [] ys n b = let e : 0 + n ≡ n = omega arith in ap (λ (i : ℕ). set ys i b) e
set-append-add (x ∷ xs) ys n b =
    let e : suc (length xs) + n ≡ suc (length xs + n) = omega arith in
    ap (λ (i : ℕ). set (x ∷ (xs ++ ys)) i b) e ∙ ap (λ (l : List Bool). x ∷ l) (set-append-add xs ys n b)

module _ (b : ℕ) where
  pub length-marks : (ws : List ℕ) → length (marks_by b ws) ≡ length ws * b
  unfolding marks_by
  length-marks [] = omega arith
  length-marks (w ∷ ws) = length-append (bits_of b w) (marks_by b ws) ∙ omega (arith, length-bits b w, length-marks ws)

  -- the mark of place r in word q
  pub mark-in : (ws : List ℕ) (q r : ℕ) → r < b → get_or (marks_by b ws) (q * b + r) false ≡ bit (get_or ws q 0) r
  unfolding marks_by
  mark-in [] q r h = sym (bit-none r)
  mark-in (w ∷ ws) zero r h =
      let e : zero * b + r ≡ r = omega arith in
      ap (λ (i : ℕ). get_or (bits_of b w ++ marks_by b ws) i false) e
      ∙ get_or-append (bits_of b w) (marks_by b ws) false r (omega (arith, length-bits b w))
      ∙ bits_at b w r h
  mark-in (w ∷ ws) (suc q) r h =
      let e : suc q * b + r ≡ length (bits_of b w) + (q * b + r) = omega (arith, length-bits b w) in
      ap (λ (i : ℕ). get_or (bits_of b w ++ marks_by b ws) i false) e
      ∙ get_or-append-add (bits_of b w) (marks_by b ws) (q * b + r) false
      ∙ mark-in ws q r h

  pub mark_set : (ws : List ℕ) (q r : ℕ) → r < b
      → marks_by b (set ws q (bit_or (get_or ws q 0) (2 ^ r))) ≡ set (marks_by b ws) (q * b + r) true
  unfolding marks_by
  mark_set [] q r k = refl
  mark_set (w ∷ ws) zero r k =
      let e : zero * b + r ≡ r = omega arith in
      ap (λ (l : List Bool). l ++ marks_by b ws) (bits-set b w r k)
      ∙ sym (set-append_left (bits_of b w) (marks_by b ws) r true (omega (arith, length-bits b w)))
      ∙ ap (λ (i : ℕ). set (bits_of b w ++ marks_by b ws) i true) (sym e)
  mark_set (w ∷ ws) (suc q) r k =
      let e : suc q * b + r ≡ length (bits_of b w) + (q * b + r) = omega (arith, length-bits b w) in
      ap (λ (l : List Bool). bits_of b w ++ l) (mark_set ws q r k)
      ∙ sym (set-append-add (bits_of b w) (marks_by b ws) (q * b + r) true)
      ∙ ap (λ (i : ℕ). set (bits_of b w ++ marks_by b ws) i true) (sym e)

  -- ---- how many are set: of the first words, and of the first bits of the next
  pub gones-part : (ws : List ℕ) (q r : ℕ) → r ≤ b → gones (marks_by b ws) (q * b + r) ≡ gones (marks_by b ws) (q * b) + ones (get_or ws q 0 % 2 ^ r)
  unfolding ones gones bit
  gones-part ws q zero h =
      let e : q * b + zero ≡ q * b = omega arith in
      ap (gones (marks_by b ws)) e
      ∙ sym (ap (λ (x : ℕ). gones (marks_by b ws) (q * b) + ones x) (mod-one (get_or ws q 0)) ∙ add-zero (gones (marks_by b ws) (q * b)))
  gones-part ws q (suc r) h =
      let w : ℕ = get_or ws q 0 in
      let e : q * b + suc r ≡ suc (q * b + r) = omega arith in
      ap (gones (marks_by b ws)) e ∙ one_more w (mark-in ws q r h) (gones-part ws q r (le_of_lt h)) ∙ sym (ap (λ (x : ℕ). gones (marks_by b ws) (q * b) + x) (counted w))
    where
      counted : (w : ℕ) → ones (w % 2 ^ suc r) ≡ w / 2 ^ r % 2 + ones (w % 2 ^ r)
      counted w =
          let e : 1 + r ≡ suc r = omega arith in
          ap (λ (n : ℕ). ones (w % 2 ^ n)) (sym e)
          ∙ ap ones (mod-pow-add w 1 r)
          ∙ ones_cat r (w / 2 ^ r % 2) (w % 2 ^ r) (mod-lt w (pow_pos r))
          ∙ ap (λ (x : ℕ). x + ones (w % 2 ^ r)) (digit (λ (d : ℕ). ones d ≡ d) refl refl (w / 2 ^ r % 2) (mod-lt (w / 2 ^ r) two))

      one_more : (w : ℕ) → get_or (marks_by b ws) (q * b + r) false ≡ bit w r
          → gones (marks_by b ws) (q * b + r) ≡ gones (marks_by b ws) (q * b) + ones (w % 2 ^ r)
          → gones (marks_by b ws) (suc (q * b + r)) ≡ gones (marks_by b ws) (q * b) + (w / 2 ^ r % 2 + ones (w % 2 ^ r))
      one_more w at so_far =
          ap (λ (m : Bool). cond m (suc (gones (marks_by b ws) (q * b + r))) (gones (marks_by b ws) (q * b + r))) at
          ∙ digit (λ (d : ℕ). cond (eqb d 1) (suc (gones (marks_by b ws) (q * b + r))) (gones (marks_by b ws) (q * b + r)) ≡ gones (marks_by b ws) (q * b) + (d + ones (w % 2 ^ r)))
          (omega arith) (omega arith) (w / 2 ^ r % 2) (mod-lt (w / 2 ^ r) two)

  pub gones-word : (ws : List ℕ) (q : ℕ) → gones (marks_by b ws) ((q + 1) * b) ≡ gones (marks_by b ws) (q * b) + ones (get_or ws q 0 % 2 ^ b)
  gones-word ws q = let e : (q + 1) * b ≡ q * b + b = omega arith in ap (gones (marks_by b ws)) e ∙ gones-part ws q b (le_refl b)

  pub gones-slots : (ws : List ℕ) (i : ℕ) → zero < b → gones (marks_by b ws) i ≡ gones (marks_by b ws) (i / b * b) + ones (get_or ws (i / b) 0 % 2 ^ (i % b))
  gones-slots ws i some =
      sym (ap (gones (marks_by b ws)) (div-add-mod' i b)) ∙ gones-part ws (i / b) (i % b) (le_of_lt (mod-lt i some))

  -- ---- by slots
  module _ (some : zero < b) where
    pub mark-at : (ws : List ℕ) (i : ℕ) → get_or (marks_by b ws) i false ≡ bit (get_or ws (i / b) 0) (i % b)
    mark-at ws i = ap (λ (n : ℕ). get_or (marks_by b ws) n false) (sym (div-add-mod' i b)) ∙ mark-in ws (i / b) (i % b) (mod-lt i some)

    -- of a slot whose mark is in the word of another's
    pub mark-with : (ws : List ℕ) (from i : ℕ) → i / b ≡ from / b → get_or (marks_by b ws) i false ≡ bit (get_or ws (from / b) 0) (i % b)
    mark-with ws from i same = mark-at ws i ∙ ap (λ (q : ℕ). bit (get_or ws q 0) (i % b)) same

    -- the mask of a slot
    mask : (i : ℕ) → (1 * 2 ^ (i % b)) % 2 ^ b ≡ 2 ^ (i % b)
    mask i = let h : 1 + i % b ≤ b = omega (arith, mod-lt i some) in shl_exact 1 (i % b) b (lit< tt) h ∙ omega arith

    pub mask-some : (i : ℕ) → zero < (1 * 2 ^ (i % b)) % 2 ^ b
    mask-some i = rw (mask i) (pow_pos (i % b))

    -- the bits before a slot in its word
    pub part-bits : (w i : ℕ) → (w % ((1 * 2 ^ (i % b)) % 2 ^ b)) % 2 ^ b ≡ w % 2 ^ (i % b)
    part-bits w i =
        ap (λ (x : ℕ). (w % x) % 2 ^ b) (mask i)
        ∙ mod-eq_of_lt (lt_of_lt_of_le (mod-lt w (pow_pos (i % b))) (pow_mono (le_of_lt (mod-lt i some))))

    pub marks-set : (ws : List ℕ) (i : ℕ)
        → marks_by b (set ws (i / b) (bit_or (get_or ws (i / b) 0) ((1 * 2 ^ (i % b)) % 2 ^ b))) ≡ set (marks_by b ws) i true
    marks-set ws i =
        ap (λ (x : ℕ). marks_by b (set ws (i / b) (bit_or (get_or ws (i / b) 0) x))) (mask i)
        ∙ mark_set ws (i / b) (i % b) (mod-lt i some)
        ∙ ap (λ (n : ℕ). set (marks_by b ws) n true) (div-add-mod' i b)

-- ---- a word in a local: it is the one at q, if there is one
abbrev pub Holds : List ℕ → ℕ → ℕ → Type 0
Holds ws q w = q < length ws → w ≡ get_or ws q 0

pub holds-set : (ws : List ℕ) (q w : ℕ) → Holds (set ws q w) q w
holds-set ws q w h = sym (get_or-set_same ws q w 0 (omega (arith, length-set ws q w)))

pub word_set : (b : ℕ) → zero < b → (ws : List ℕ) (i w : ℕ) → Holds ws (i / b) w
    → marks_by b (set ws (i / b) (bit_or w ((1 * 2 ^ (i % b)) % 2 ^ b))) ≡ set (marks_by b ws) i true
word_set b some ws i w holds =
    elim (dec_lt (i / b) (length ws)) [
      | yes h ↦ ap (λ (x : ℕ). marks_by b (set ws (i / b) (bit_or x ((1 * 2 ^ (i % b)) % 2 ^ b)))) (holds h) ∙ marks-set b some ws i
      | no far ↦
          let low : length ws * b ≤ i / b * b = mul-le-mul_right b (omega arith) in
          ap (marks_by b) (set_out ws (i / b) _ (omega arith)) ∙ sym (set_out (marks_by b ws) i true (omega (arith, length-marks b ws, low, div-mul-le_self i b)))
    ]

-- ---- words that are all 0
pub none-marked : (b : ℕ) → zero < b → (n i : ℕ) → get_or (marks_by b (replicate n 0)) i false ≡ false
none-marked b some n i = mark-at b some (replicate n 0) i ∙ ap (λ (w : ℕ). bit w (i % b)) (same-everywhere 0 n (i / b)) ∙ bit-none (i % b)

-- ---- marks copied one after the other: the first j are as ms has them, no other is set
pub record Copied (ms ps : List Bool) (j : ℕ) : Type 0 where
  pub same : (i : ℕ) → i < j → get_or ps i false ≡ get_or ms i false
  pub clear : (i : ℕ) → j ≤ i → get_or ps i false ≡ false

pub copied-set : (ms ps : List Bool) (j : ℕ) → j < length ps → get_or ms j false ≡ true → Copied ms ps j → Copied ms (set ps j true) (j + 1)
copied-set ms ps j room e p =
    record {
      same = below_more (λ (i : ℕ). get_or (set ps j true) i false ≡ get_or ms i false) j (λ i h. get_or-set_other ps j i true false (λ q. omega arith) ∙ p.same i h) (get_or-set_same ps j true false room ∙ sym e);
      clear = λ i h. get_or-set_other ps j i true false (λ q. omega arith) ∙ p.clear i (omega arith);
    }

pub copied-left : (ms ps : List Bool) (j : ℕ) → get_or ms j false ≡ false → Copied ms ps j → Copied ms ps (j + 1)
copied-left ms ps j e p =
    record {
      same = below_more (λ (i : ℕ). get_or ps i false ≡ get_or ms i false) j p.same (p.clear j (le_refl j) ∙ sym e);
      clear = λ i h. p.clear i (omega arith);
    }
