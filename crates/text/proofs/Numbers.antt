-- (rule P10) A number of any length is never wrapped, whatever the limit: what is read is its exact value, or the limit for all above it.
use Prim.Native.Nat.{ℕ, suc, ◌+◌, ◌*◌, ◌-◌, ◌<◌, ◌≤◌}
use native.Mathlib.Omega.{arith}
use mathlib.Core.Path.{◌≡◌, refl}
use mathlib.Core.Bool.{Bool, true, false, cond}
use mathlib.Core.List.{List, [], ◌∷◌}
use lib.ListN.{drop}
use lib.Dec.{leb, ltb}
use borrow.Author.Tests.{le-leb, lt-leb, leb-true, leb-false, ltb-true, ltb-false}
use Rattle.std.specs.Prelude.{if◌then◌else◌}
use Rattle.rows.specs.Limits.{greatest_number}
use Rattle.text.specs.Patterns.{is_digit, grown_to, grown, run, digits}

-- what v is worth with one more digit, with no bound
unfoldable pub exact : ℕ → ℕ → ℕ
exact v b = v * 10 + (b - 48)

-- n, or the limit for all above it
unfoldable pub capped : ℕ → ℕ → ℕ
capped limit n = if leb n limit then n else limit

-- what is not below the limit is the limit
at_most : (limit n : ℕ) → (n ≤ limit → n ≡ limit) → capped limit n ≡ limit
unfolding capped
at_most limit n h = pick (leb n limit) refl
  where
    pick : (t : Bool) → leb n limit ≡ t → cond t n limit ≡ limit
    pick true e = h (leb-true n limit e)
    pick false e = refl

-- that the limit itself counts as above it changes nothing
pub limit-above : (limit n : ℕ) → capped limit n ≡ (if ltb n limit then n else limit)
unfolding capped
limit-above limit n = pick (ltb n limit) refl
  where
    pick : (t : Bool) → ltb n limit ≡ t → capped limit n ≡ cond t n limit
    pick true e = let l = ltb-true n limit e in rw (le-leb n limit (omega arith)) refl
    pick false e = let l = ltb-false n limit e in at_most limit n (λ m. omega arith)

one_more : (limit v b : ℕ) → grown_to limit (capped limit v) b ≡ capped limit (exact v b)
unfolding grown_to capped exact
one_more limit v b = pick (leb v limit) refl
  where
    pick : (t : Bool) → leb v limit ≡ t → grown_to limit (cond t v limit) b ≡ capped limit (exact v b)
    pick true e = refl
    pick false e =
        let h : limit < v = leb-false v limit e in
        rw (lt-leb (v * 10 + (b - 48)) limit (omega arith)) (at_most limit (limit * 10 + (b - 48)) (λ l. omega arith))

run-capped : (limit : ℕ) (bs : List ℕ) (v i : ℕ) → (run is_digit (grown_to limit) (capped limit v) i bs).value ≡ capped limit (run is_digit exact v i bs).value
unfolding run
run-capped limit [] v i = refl
run-capped limit (b ∷ bs) v i = rw (one_more limit v b) (pick (is_digit b) (run-capped limit bs (exact v b) (suc i)))
  where
    pick : (t : Bool) → (run is_digit (grown_to limit) (capped limit (exact v b)) (suc i) bs).value ≡ capped limit (run is_digit exact (exact v b) (suc i) bs).value
        → (cond t (run is_digit (grown_to limit) (capped limit (exact v b)) (suc i) bs) (record { value = capped limit v; next = i })).value
        ≡ capped limit (cond t (run is_digit exact (exact v b) (suc i) bs) (record { value = v; next = i })).value
    pick true h = h
    pick false h = refl

-- the limit of what is read is one above the greatest number
pub never-wrapped : (s : List ℕ) (i : ℕ) → (digits s i).value ≡ capped (suc greatest_number) (run is_digit exact 0 i (drop i s)).value
unfolding digits grown capped greatest_number
never-wrapped s i = run-capped (suc greatest_number) (drop i s) 0 i
