-- The first numbers of a list with 0 after the last, as calls and answers hold them: without the zeros they are the list; two such lists have its pairs.
use Prim.Native.Nat.{ℕ, zero, suc, ◌≤◌}
use native.Mathlib.Omega.{arith}
use mathlib.Core.Bool.{true}
use mathlib.Core.List.{List, [], ◌∷◌, map}
use mathlib.Core.Path.{◌≡◌, refl, ap}
use lib.ListN.{length, get_or}
use Rattle.rows.specs.Lists.{filter, all, some, nonzero}
use Rattle.rows.specs.Limits.{most_pairs}
use Rattle.rows.proofs.Bools.{and_l, and_r}
use Rattle.calls.specs.Answers.{numbers_of, all_of}
use Rattle.calls.specs.Calls.{four_from, sixteen_from}
use Rattle.text.specs.CallLines.{Group}
use Rattle.text.specs.ReadBack.{paired, pairs_of}

-- k numbers of a list from a position on, 0 for none
unfoldable pub firsts : ℕ → ℕ → List ℕ → List ℕ
firsts zero i ns = []
firsts (suc k) i ns = get_or ns i 0 ∷ firsts k (suc i) ns

firsts-none : (k i : ℕ) → nonzero (firsts k i []) ≡ []
unfolding firsts nonzero filter some
firsts-none zero i = refl
firsts-none (suc k) i = firsts-none k (suc i)

firsts-rest : (k i n : ℕ) (ns : List ℕ) → firsts k (suc i) (n ∷ ns) ≡ firsts k i ns
unfolding firsts
firsts-rest zero i n ns = refl
firsts-rest (suc k) i n ns = ap (λ (l : List ℕ). get_or ns i 0 ∷ l) (firsts-rest k (suc i) n ns)

pub firsts-all : (k : ℕ) (ns : List ℕ) → length ns ≤ k → all some ns ≡ true → nonzero (firsts k 0 ns) ≡ ns
unfolding firsts nonzero filter all
firsts-all zero [] h a = refl
firsts-all zero (n ∷ ns) h a = absurd (omega arith)
firsts-all (suc k) [] h a = firsts-none (suc k) 0
firsts-all (suc k) (n ∷ ns) h a =
    rw (and_l (some n) (all some ns) a, firsts-rest k 0 n ns)
    (ap (λ (l : List ℕ). n ∷ l) (firsts-all k ns (omega arith) (and_r (some n) (all some ns) a)))

-- ---- pairs
no_pairs : (k i : ℕ) (qs : List ℕ) → paired (firsts k i []) qs ≡ []
unfolding firsts paired some
no_pairs zero i qs = refl
no_pairs (suc k) i [] = refl
no_pairs (suc k) i (q ∷ qs) = no_pairs k (suc i) qs

firsts-paired : (k : ℕ) (xs : List Group) → length xs ≤ k → all (λ x. some x.first) xs ≡ true
    → paired (firsts k 0 (map (λ x. x.first) xs)) (firsts k 0 (map (λ x. x.second) xs)) ≡ xs
unfolding firsts paired all
firsts-paired zero [] h a = refl
firsts-paired zero (x ∷ xs) h a = absurd (omega arith)
firsts-paired (suc k) [] h a = no_pairs (suc k) 0 (firsts (suc k) 0 [])
firsts-paired (suc k) (x ∷ xs) h a =
    rw (and_l (some x.first) _ a, firsts-rest k 0 x.first (map (λ y. y.first) xs), firsts-rest k 0 x.second (map (λ y. y.second) xs))
    (ap (λ (l : List Group). x ∷ l) (firsts-paired k xs (omega arith) (and_r (some x.first) _ a)))

pub pairs-back : (xs : List Group) → length xs ≤ most_pairs → all (λ x. some x.first) xs ≡ true
    → pairs_of (sixteen_from (map (λ x. x.first) xs)) (sixteen_from (map (λ x. x.second) xs)) ≡ xs
unfolding pairs_of all_of numbers_of sixteen_from four_from firsts most_pairs
pairs-back xs h a = firsts-paired 16 xs h a
