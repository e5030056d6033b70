-- Rights within others by one test of their bits; one right is within others if it is one of them.
use Rattle.std.proofs.Common.{◌≡◌, ℕ, zero, suc, ◌/◌, ◌%◌, ◌<◌, Bool, true, false, ◌&&◌, eqb, leb, sym, refl, ap, ◌∙◌, ⊎_elim, zero-le, le_of_suc-le-suc, not-suc-le-zero, eq-or-lt_of_le, arith, eq-eqb, eqb-true, le-leb, leb-true}
use lib.Bits.{bit_and, and_mod}
use Rattle.rows.specs.Codes.{may_hold, may_transfer, may_register, within}
use Rattle.rows.specs.Sound.{same}
use Rattle.rows.proofs.Bools.{bool_eq, and_l, and_r, and-true}

bit : (x : ℕ) → x < 2 → leb 1 x ≡ eqb x 1
bit x h = bool_eq (leb 1 x) (eqb x 1) (λ e. eq-eqb x 1 (let lo = leb-true 1 x e in omega arith)) (λ e. le-leb 1 x (let one = eqb-true x 1 e in omega arith))

-- ---- bits
below : (ℕ → Bool) → ℕ → Bool
below f zero = true
below f (suc n) = f n && below f n

below_at : (f : ℕ → Bool) (n : ℕ) → below f n ≡ true → (k : ℕ) → k < n → f k ≡ true
unfolding below
below_at f zero e k h = absurd (not-suc-le-zero h)
below_at f (suc n) e k h =
    ⊎_elim (λ q. ap f q ∙ and_l (f n) (below f n) e) (λ lt. below_at f n (and_r (f n) (below f n) e) k lt) (eq-or-lt_of_le (le_of_suc-le-suc h))

same-eq : (a b : Bool) → same a b ≡ true → a ≡ b
unfolding same
same-eq true true e = refl
same-eq true false e = sym e
same-eq false true e = e
same-eq false false e = refl

-- of three bits, by computing all
right : ℕ → ℕ → Bool
right x y = same (eqb (bit_and x y) x) (within x y)

table : below (λ x. below (right x) 8) 8 ≡ true
unfolding below right same within
table = refl

three-bits : (x y : ℕ) → x < 8 → y < 8 → eqb (bit_and x y) x ≡ within x y
unfolding right
three-bits x y hx hy = same-eq (eqb (bit_and x y) x) (within x y) (below_at (right x) 8 (below_at (λ x. below (right x) 8) 8 table x hx) y hy)

low_bits : (r s : ℕ) → within (r % 8) (s % 8) ≡ within r s
unfolding within
low_bits r s = rw (one r, one s, two r, two s, four r, four s) refl
  where
    one : (n : ℕ) → n % 8 % 2 ≡ n % 2
    one n = omega arith

    two : (n : ℕ) → n % 8 / 2 % 2 ≡ n / 2 % 2
    two n = omega arith

    four : (n : ℕ) → n % 8 / 4 % 2 ≡ n / 4 % 2
    four n = omega arith

pub within-bits : (r s : ℕ) → eqb (bit_and r s % 8) (r % 8) ≡ within r s
within-bits r s =
    ap (λ (n : ℕ). eqb n (r % 8)) (and_mod r s 3) ∙ three-bits (r % 8) (s % 8) (omega arith) (omega arith) ∙ low_bits r s

-- ---- one right
module _ (r : ℕ) where
  pub hold-within : within 1 r ≡ may_hold r
  unfolding within may_hold
  hold-within = rw (bit (r % 2) (omega arith), le-leb 0 (r / 2 % 2) zero-le, le-leb 0 (r / 4 % 2) zero-le) (and-true (eqb (r % 2) 1))

  pub transfer-within : within 2 r ≡ may_transfer r
  unfolding within may_transfer
  transfer-within = rw (bit (r / 2 % 2) (omega arith), le-leb 0 (r % 2) zero-le, le-leb 0 (r / 4 % 2) zero-le) (and-true (eqb (r / 2 % 2) 1))

  pub register-within : within 4 r ≡ may_register r
  unfolding within may_register
  register-within = rw (bit (r / 4 % 2) (omega arith), le-leb 0 (r % 2) zero-le, le-leb 0 (r / 2 % 2) zero-le) refl
