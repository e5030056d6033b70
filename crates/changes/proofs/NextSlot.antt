-- The first slot from one on that is marked, or that is not: by the lowest bit of a word, or in a later word.
use Prim.Native.Nat.{ℕ, zero, ◌+◌, ◌-◌, ◌*◌, ◌^◌, ◌≤◌, ◌<◌, min}
use mathlib.Core.Bool.{Bool, true, false, not}
use mathlib.Core.List.{List}
use mathlib.Core.Path.{◌≡◌, refl, ap, sym, subst, ◌∙◌}
use native.Mathlib.Decide.{dec_lt}
use native.Mathlib.Omega.{arith}
use lib.Count.{count_trailing_zeros}
use lib.ListN.{get_or}
use Rattle.rows.proofs.Bools.{clash}
use Rattle.changes.specs.vocabulary.Bits.{bit, marks_by, same_as}
use Rattle.changes.specs.vocabulary.Marks.{Passes, EndsAt}
use Rattle.changes.proofs.BitLaws.{bit-none, bit_past, mark-in, low_clear, low-set, low-there}

-- ---- what is looked for
same_true : (m x : Bool) → same_as m x ≡ true → x ≡ m
unfolding same_as
same_true true x e = e
same_true false true e = sym e
same_true false false e = refl

same_false : (m x : Bool) → same_as m x ≡ false → x ≡ not m
unfolding same_as
same_false true x e = e
same_false false true e = refl
same_false false false e = sym e

-- ---- runs put together
pub passes_on : (ms : List Bool) (m : Bool) (a b c : ℕ) → Passes ms m a b → Passes ms m b c → Passes ms m a c
passes_on ms m a b c p q i h k = elim (dec_lt i b) [ yes lt ↦ p i h lt | no ge ↦ q i (omega arith) k ]

pub ends_on : (ms : List Bool) (m : Bool) (from mid count r : ℕ) → from ≤ mid → Passes ms m from mid → EndsAt ms m mid count r → EndsAt ms m from count r
ends_on ms m from mid count r h p e =
    record { after = omega (arith, e.after); within = e.within; passed = passes_on ms m from mid r p e.passed; stops = e.stops }

pub ends-none : (ms : List Bool) (m : Bool) (from mid count : ℕ) → from ≤ count → count ≤ mid → Passes ms m from mid → EndsAt ms m from count count
ends-none ms m from mid count h far p =
    record { after = h; within = omega arith; passed = λ i a b. p i a (omega arith); stops = λ lt. absurd (omega arith) }

-- ---- in one word, of b bits: from place r of word q on, rest has the bits that are looked for
module _ (b : ℕ) (ws : List ℕ) (m : Bool) (q r : ℕ) (u rest : ℕ) (fits : u < 2 ^ b)
    (looked : (k : ℕ) → k < b → bit u k ≡ same_as m (bit (get_or ws q 0) k)) (is : (k : ℕ) → bit rest k ≡ bit u (r + k)) where
  mark_of : (k : ℕ) (v : Bool) → r + k < b → bit rest k ≡ v → same_as m (get_or (marks_by b ws) (q * b + (r + k)) false) ≡ v
  mark_of k v h e = ap (same_as m) (mark-in b ws q (r + k) h) ∙ sym (looked (r + k) h) ∙ sym (is k) ∙ e

  -- slots of the word, by their place from r on
  at : (P : ℕ → Type 0) (i : ℕ) → q * b + r ≤ i → P (q * b + (r + (i - (q * b + r)))) → P i
  at P i h p = let e : q * b + (r + (i - (q * b + r))) ≡ i = omega arith in subst P e p

  pub none-there : rest ≡ 0 → Passes (marks_by b ws) m (q * b + r) ((q + 1) * b)
  none-there z i h k =
      let d : ℕ = i - (q * b + r) in
      let lt : r + d < b = omega arith in
      at (λ (x : ℕ). get_or (marks_by b ws) x false ≡ not m) i h (same_false m _ (mark_of d false lt (ap (λ (x : ℕ). bit x d) z ∙ bit-none d)))

  module _ (some : zero < rest) (small : rest < 2 ^ b) where
    abbrev t : ℕ
    t = count_trailing_zeros b rest

    there : bit rest t ≡ true
    there = low-set b rest (low-there b rest small some)

    within : r + t < b
    within = elim (dec_lt (r + t) b) [ yes lt ↦ lt | no far ↦ clash there (is t ∙ bit_past b u (r + t) fits (omega arith)) ]

    pub found : (count : ℕ) → q * b + r ≤ count → EndsAt (marks_by b ws) m (q * b + r) count (min ((q * b + r) + t) count)
    found count h =
        record {
          after = omega arith;
          within = omega arith;
          passed =
              λ i a k.
              let d : ℕ = i - (q * b + r) in
              let lt : d < t = omega arith in
              at (λ (x : ℕ). get_or (marks_by b ws) x false ≡ not m) i a (same_false m _ (mark_of d false (omega (arith, within)) (low_clear b rest d lt)));
          stops =
              λ lt.
              let e : min ((q * b + r) + t) count ≡ q * b + (r + t) = omega arith in
              subst (λ (x : ℕ). get_or (marks_by b ws) x false ≡ m) (sym e) (same_true m _ (mark_of t true within there));
        }

-- from the start of a word on
module _ (b : ℕ) (ws : List ℕ) (m : Bool) (q u : ℕ) (fits : u < 2 ^ b) (looked : (k : ℕ) → k < b → bit u k ≡ same_as m (bit (get_or ws q 0) k)) where
  start : q * b + 0 ≡ q * b
  start = omega arith

  is : (k : ℕ) → bit u k ≡ bit u (0 + k)
  is k = let e : 0 + k ≡ k = omega arith in sym (ap (bit u) e)

  pub none-in-word : u ≡ 0 → Passes (marks_by b ws) m (q * b) ((q + 1) * b)
  none-in-word z = subst (λ (x : ℕ). Passes (marks_by b ws) m x ((q + 1) * b)) start (none-there b ws m q 0 u u fits looked is z)

  pub found-in-word : zero < u → (count : ℕ) → q * b ≤ count → EndsAt (marks_by b ws) m (q * b) count (min (q * b + count_trailing_zeros b u) count)
  found-in-word some count h =
      subst (λ (x : ℕ). EndsAt (marks_by b ws) m x count (min (x + count_trailing_zeros b u) count)) start (found b ws m q 0 u u fits looked is some fits count (omega arith))
