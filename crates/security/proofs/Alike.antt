-- Tests that agree up to the first that holds: both refuse alike, or both come to the tests of room.
use Prim.Native.Nat.{ℕ, ◌<◌, ◌≤◌}
use native.Mathlib.Omega.{arith}
use mathlib.Core.Bool.{Bool, true, false, cond, true≢false}
use mathlib.Core.List.{List, [], ◌∷◌}
use mathlib.Core.Path.{◌≡◌, refl, sym}
use mathlib.Core.Logic.{◌⊎◌, inl, inr}
use lib.Dec.{leb, eqb}
use borrow.Author.Tests.{leb-true, ne_eqb}
use Rattle.rows.specs.Lists.{all}
use Rattle.rows.specs.Tables.{State}
use Rattle.rows.proofs.Bools.{and_l, and_r}
use Rattle.calls.specs.Answers.{refusal_of}
use Rattle.calls.specs.Rules.{Out, Test, ◌when◌, lowest, refused, judge}
use Rattle.security.specs.Isolation.{Alike, refused as both-refused, no_room}

-- the tests of room: 16, 17, 18
abbrev pub late : List Test → Bool
late ts = all (λ t. leb 16 t.number) ts

-- tests that agree, the later ones where the earlier ones do not hold, up to those of room; then E holds
pub data Agreeing (E : Type 0) : List Test → List Test → Type 0 where
  rest : (ts ts' : List Test) → late ts ≡ true → late ts' ≡ true → E → Agreeing E ts ts'
  test : (k : ℕ) (a b : Bool) (ts ts' : List Test) → 0 < k → k < 16 → a ≡ b → (a ≡ false → Agreeing E ts ts') → Agreeing E (k when a ∷ ts) (k when b ∷ ts')

-- the number of the first test that holds
data Lowest (E : Type 0) (ts ts' : List Test) : Type 0 where
  early : (k : ℕ) → 0 < k → k < 16 → lowest ts ≡ k → lowest ts' ≡ k → Lowest E ts ts'
  later : E → (lowest ts ≡ 0) ⊎ (16 ≤ lowest ts) → (lowest ts' ≡ 0) ⊎ (16 ≤ lowest ts') → Lowest E ts ts'

late-lowest : (ts : List Test) → late ts ≡ true → (lowest ts ≡ 0) ⊎ (16 ≤ lowest ts)
unfolding lowest all
late-lowest [] e = inl refl
late-lowest (t ∷ ts) e = pick (late-lowest ts (and_r (leb 16 t.number) (late ts) e)) t.holds
  where
    pick : (lowest ts ≡ 0) ⊎ (16 ≤ lowest ts) → (b : Bool) → (cond b t.number (lowest ts) ≡ 0) ⊎ (16 ≤ cond b t.number (lowest ts))
    pick ih true = inr (leb-true 16 t.number (and_l (leb 16 t.number) (late ts) e))
    pick ih false = ih

lowest-of : (E : Type 0) (ts ts' : List Test) → Agreeing E ts ts' → Lowest E ts ts'
unfolding lowest
lowest-of E ts ts' (rest ts₁ ts₂ l l' e) = later e (late-lowest ts l) (late-lowest ts' l')
lowest-of E ts ts' (test k a b us us' lo hi q h) = pick a b q (λ z. lowest-of E us us' (h z))
  where
    pick : (a b : Bool) → a ≡ b → (a ≡ false → Lowest E us us') → Lowest E (k when a ∷ us) (k when b ∷ us')
    pick true true q h = early k lo hi refl refl
    pick true false q h = absurd (true≢false q)
    pick false true q h = absurd (true≢false (sym q))
    pick false false q h = lift (h refl)
      where
        lift : Lowest E us us' → Lowest E (k when false ∷ us) (k when false ∷ us')
        lift (early j l h e e') = early j l h e e'
        lift (later e l l') = later e l l'

-- ---- judged by such tests
-- what follows is accepted, and alike
pub record Accepts (st st' : State) (o o' : Out) : Type 0 where
  pub first : refusal_of o.answer ≡ 0
  pub second : refusal_of o'.answer ≡ 0
  pub alike : Alike st st' o.answer o'.answer

pub judged-alike : (st st' : State) (ts ts' : List Test) (o o' : Out) → Agreeing (Accepts st st' o o') ts ts' → Alike st st' (judge st ts o).answer (judge st' ts' o').answer
unfolding judge refused refusal_of
judged-alike st st' ts ts' o o' x = pick (lowest-of (Accepts st st' o o') ts ts' x)
  where
    other : (k : ℕ) → 0 < k → eqb k 0 ≡ false
    other k h = ne_eqb k 0 (λ z. omega arith)

    pick : Lowest (Accepts st st' o o') ts ts' → Alike st st' (cond (eqb (lowest ts) 0) o (refused st (lowest ts))).answer (cond (eqb (lowest ts') 0) o' (refused st' (lowest ts'))).answer
    pick (early k lo hi e e') = rw (e, e', other k lo) (both-refused k hi refl refl)
    pick (later a (inl z) (inl z')) = rw (z, z') a.alike
    pick (later a (inl z) (inr g)) = rw (z, other (lowest ts') (omega arith)) (no_room (inr g) (inl a.first) (inr g))
    pick (later a (inr g) (inl z)) = rw (z, other (lowest ts) (omega arith)) (no_room (inl g) (inr g) (inl a.second))
    pick (later a (inr g) (inr g')) = rw (other (lowest ts) (omega arith), other (lowest ts') (omega arith)) (no_room (inl g) (inr g) (inr g'))
