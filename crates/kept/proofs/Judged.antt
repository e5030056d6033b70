-- The first test that holds refuses: ONE law for every property of every call.
use Prim.Native.Nat.{ℕ}
use mathlib.Core.Bool.{Bool, true, false, cond}
use mathlib.Core.List.{List, [], ◌∷◌}
use mathlib.Core.Path.{◌≡◌, refl}
use mathlib.Core.Logic.{◌⊎◌, inl, inr}
use lib.Dec.{leb, eqb}
use native.Mathlib.Omega.{arith}
use borrow.Author.Tests.{leb-true, ne_eqb}
use Rattle.rows.specs.Lists.{all}
use Rattle.rows.specs.Tables.{State}
use Rattle.rows.proofs.Bools.{and_l, and_r}
use Rattle.calls.specs.Rules.{Out, Test, is_refusal, lowest, refused, judge}

-- no test holds
unfoldable pub Passed : List Test → Type 0
Passed [] = Unit {0}
Passed (t ∷ ts) = (t.holds ≡ false) × Passed ts

-- each test has the number of a refusal
unfoldable pub numbered : List Test → Bool
numbered ts = all (λ t. is_refusal t.number) ts

decided : (ts : List Test) → numbered ts ≡ true → ((lowest ts ≡ 0) × Passed ts) ⊎ (is_refusal (lowest ts) ≡ true)
unfolding lowest Passed numbered all
decided [] n = inl (refl, tt)
decided (t ∷ ts) n = pick (decided ts (and_r (is_refusal t.number) (numbered ts) n)) t.holds refl
  where
    pick : ((lowest ts ≡ 0) × Passed ts) ⊎ (is_refusal (lowest ts) ≡ true) → (b : Bool) → t.holds ≡ b
        → ((cond b t.number (lowest ts) ≡ 0) × ((t.holds ≡ false) × Passed ts)) ⊎ (is_refusal (cond b t.number (lowest ts)) ≡ true)
    pick d true q = inr (and_l (is_refusal t.number) (numbered ts) n)
    pick (inl (z, w)) false q = inl (z, (q, w))
    pick (inr r) false q = inr r

pub refusal-some : (k : ℕ) → is_refusal k ≡ true → eqb k 0 ≡ false
refusal-some k r = let l = leb-true 2 k (and_l (leb 2 k) (leb k 18) r) in ne_eqb k 0 (λ z. omega arith)

-- a property that refusals have, and what follows where no test holds
pub judged : (P : Out → Type 0) (st : State) (ts : List Test) (o : Out) → ((k : ℕ) → is_refusal k ≡ true → P (refused st k)) → numbered ts ≡ true → (Passed ts → P o)
    → P (judge st ts o)
unfolding judge
judged P st ts o refusal n effect = pick (decided ts n)
  where
    pick : ((lowest ts ≡ 0) × Passed ts) ⊎ (is_refusal (lowest ts) ≡ true) → P (cond (eqb (lowest ts) 0) o (refused st (lowest ts)))
    pick (inl (z, w)) = rw z (effect w)
    pick (inr r) = rw (refusal-some (lowest ts) r) (refusal (lowest ts) r)
