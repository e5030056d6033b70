-- Tests of all or of any of the numbers from one on, step by step, and of all elements of a list from a position on.
use Prim.Native.Nat.{ℕ, zero, suc, ◌+◌, ◌-◌, ◌≤◌, ◌<◌}
use native.Mathlib.Numerals.{add-one}
use native.Mathlib.Omega.{arith}
use mathlib.Core.Bool.{Bool, true, false, cond, ◌&&◌}
use mathlib.Core.List.{List, [], ◌∷◌}
use mathlib.Core.Path.{◌≡◌, refl, sym, ap, ◌∙◌}
use lib.Dec.{eqb}
use lib.ListN.{length, get_or, drop, drop_of_length-le}
use lib.Seq.{drop-cons}
use borrow.Author.Tests.{eqb-true, eqb-false, ne_eqb}
use Rattle.rows.specs.Lists.{any, all, between}
use Rattle.rows.proofs.Bools.{and-true, and-false, all-eq}
use Rattle.rows.proofs.Places.{between-range}
use Rattle.joining.specs.Joins.{numbers_from}

-- ---- the numbers from n on, up to most
left-some : (n most : ℕ) → n ≤ most → numbers_from n (suc most - n) ≡ n ∷ numbers_from (n + 1) (suc most - (n + 1))
unfolding numbers_from
left-some n most h =
    let e : suc most - n ≡ suc (suc most - (n + 1)) = omega arith in
    ap (numbers_from n) e ∙ rw add-one refl

left-none : (n most : ℕ) → most < n → numbers_from n (suc most - n) ≡ []
unfolding numbers_from
left-none n most h = let e : suc most - n ≡ 0 = omega arith in ap (numbers_from n) e

module _ (f : ℕ → Bool) (n most : ℕ) where
  pub all-next : n ≤ most → f n ≡ true → all f (numbers_from n (suc most - n)) ≡ all f (numbers_from (n + 1) (suc most - (n + 1)))
  unfolding all
  all-next h t = ap (all f) (left-some n most h) ∙ (rw t refl)

  pub all-stops : n ≤ most → f n ≡ false → all f (numbers_from n (suc most - n)) ≡ false
  unfolding all
  all-stops h t = ap (all f) (left-some n most h) ∙ (rw t refl)

  pub all-ends : most < n → all f (numbers_from n (suc most - n)) ≡ true
  unfolding all
  all-ends h = ap (all f) (left-none n most h)

  pub any_next : n ≤ most → f n ≡ false → any f (numbers_from n (suc most - n)) ≡ any f (numbers_from (n + 1) (suc most - (n + 1)))
  unfolding any
  any_next h t = ap (any f) (left-some n most h) ∙ (rw t refl)

  pub any-stops : n ≤ most → f n ≡ true → any f (numbers_from n (suc most - n)) ≡ true
  unfolding any
  any-stops h t = ap (any f) (left-some n most h) ∙ (rw t refl)

  pub any-ends : most < n → any f (numbers_from n (suc most - n)) ≡ false
  unfolding any
  any-ends h = ap (any f) (left-none n most h)

-- ---- one number of them
-- a test that another one, and of the number m also b, decide
and-swap : (a b c d : Bool) → (a && b) && (c && d) ≡ (a && c) && (b && d)
and-swap true true c d = refl
and-swap true false c d = sym (and-false c)
and-swap false b c d = refl

unfoldable only : ℕ → Bool → ℕ → Bool
only m b n = cond (eqb m n) b true

only_none : (m : ℕ) (b : Bool) (a k : ℕ) → m < a → all (only m b) (numbers_from a k) ≡ true
unfolding all numbers_from only
only_none m b a zero h = refl
only_none m b a (suc k) h = rw (ne_eqb m a (omega arith)) (only_none m b (suc a) k (omega arith))

only_one : (m : ℕ) (b : Bool) (a k : ℕ) → a ≤ m → m < a + k → all (only m b) (numbers_from a k) ≡ b
unfolding all numbers_from only
only_one m b a zero lo hi = absurd (omega arith)
only_one m b a (suc k) lo hi = pick (eqb m a) refl (only_one m b (suc a) k)
  where
    pick : (t : Bool) → eqb m a ≡ t → (suc a ≤ m → m < suc a + k → all (only m b) (numbers_from (suc a) k) ≡ b)
        → cond t b true && all (only m b) (numbers_from (suc a) k) ≡ b
    pick true e later = let same = eqb-true m a e in rw (only_none m b (suc a) k (omega arith)) (and-true b)
    pick false e later = let other = eqb-false m a e in later (omega arith) (omega arith)

split : (g h : ℕ → Bool) (ns : List ℕ) → all (λ n. g n && h n) ns ≡ all g ns && all h ns
unfolding all
split g h [] = refl
split g h (n ∷ ns) = rw (split g h ns) (and-swap (g n) (h n) (all g ns) (all h ns))

pub one_more : (g h : ℕ → Bool) (m : ℕ) (b : Bool) (k : ℕ) → between 1 k m ≡ true → ((n : ℕ) → g n ≡ cond (eqb m n) b true && h n)
    → all g (numbers_from 1 k) ≡ b && all h (numbers_from 1 k)
unfolding only
one_more g h m b k r e =
    let (lo, hi) = between-range 1 k m r in
    all-eq g (λ n. only m b n && h n) e (numbers_from 1 k) ∙ split (only m b) h (numbers_from 1 k) ∙ ap (λ (x : Bool). x && all h (numbers_from 1 k)) (only_one m b 1 k lo (omega arith))

-- ---- the elements of a list from a position on
module _ (f : ℕ → Bool) (ns : List ℕ) (i : ℕ) where
  pub drop-next : i < length ns → f (get_or ns i 0) ≡ true → all f (drop i ns) ≡ all f (drop (i + 1) ns)
  unfolding all
  drop-next h t = ap (all f) (drop-cons ns i 0 h) ∙ rw (t, add-one) refl

  pub drop-stops : i < length ns → f (get_or ns i 0) ≡ false → all f (drop i ns) ≡ false
  unfolding all
  drop-stops h t = ap (all f) (drop-cons ns i 0 h) ∙ (rw t refl)

  pub drop-ends : length ns ≤ i → all f (drop i ns) ≡ true
  unfolding all
  drop-ends h = ap (all f) (drop_of_length-le ns h)
