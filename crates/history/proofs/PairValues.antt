-- The values of what comesall answers: the first is there and in range; there is one for each pair, in order.
use Prim.Native.Nat.{ℕ, ◌<◌, ◌≤◌}
use native.Mathlib.Omega.{arith}
use mathlib.Core.Bool.{Bool, true, false, cond}
use mathlib.Core.List.{List, [], ◌∷◌, map, map-map}
use mathlib.Core.Path.{◌≡◌, refl, ap, ◌∙◌}
use lib.Dec.{eqb}
use lib.ListN.{length}
use borrow.Author.Tests.{eq-eqb, ne_eqb}
use Rattle.rows.specs.Lists.{filter, some, nonzero}
use Rattle.rows.specs.Limits.{greatest_number}
use Rattle.rows.specs.Tables.{State, comes_from}
use Rattle.rows.proofs.Bools.{some-pos, none-zero}
use Rattle.calls.specs.declared.Sixteen.{Sixteen}
use Rattle.calls.specs.declared.Answer.TheVariants.{ToldAll}
use Rattle.calls.specs.Answers.{num, dash, numbers_of, all_of, told_no, told_yes, not_told, told_value, values_of}
use Rattle.calls.specs.Rules.{lowest}
use Rattle.calls.specs.Calls.{refusals_comes, told, told_each, four_from, sixteen_from}
use Rattle.text.specs.CallLines.{Group}
use Rattle.text.specs.ReadBack.{paired, pairs_of}
use Rattle.history.proofs.Inv.{first_value}

-- what is told of a pair has a code
told-some : (st : State) (e q : ℕ) → some e ≡ true → some (told st e q) ≡ true
unfolding told some told_no told_yes not_told
told-some st e q h = rw (ne_eqb e 0 (λ z. omega (arith, some-pos e h))) (pick (eqb (lowest (refusals_comes st e q)) 0) (comes_from st.rows q e))
  where
    pick : (ok from : Bool) → some (cond ok (cond from told_yes told_no) not_told) ≡ true
    pick true true = refl
    pick true false = refl
    pick false from = refl

told-ranged : (cs : List ℕ) → first_value (map told_value cs) ≤ greatest_number
unfolding told_value first_value greatest_number
told-ranged [] = omega arith
told-ranged (c ∷ cs) = pick (eqb c told_no) (eqb c told_yes)
  where
    pick : (a b : Bool) → first_value (cond a (num 0) (cond b (num 1) dash) ∷ map told_value cs) ≤ greatest_number
    pick true b = omega arith
    pick false true = omega arith
    pick false false = omega arith

pub pairs_first : (s : Sixteen) → first_value (values_of (ToldAll s)) ≤ greatest_number
unfolding values_of
pairs_first s = told-ranged (nonzero (all_of s))

pub pairs-some : (st : State) (es qs : Sixteen) → some es.first.first ≡ true → 0 < length (values_of (ToldAll (sixteen_from (told_each st (all_of es) (all_of qs)))))
unfolding values_of all_of numbers_of sixteen_from four_from told_each nonzero filter
pairs-some st es qs h = rw (told-some st es.first.first qs.first.first h) (omega arith)

-- ---- all pairs
-- what is no pair has no code
none_told : (st : State) (e q : ℕ) → some e ≡ false → told st e q ≡ 0
unfolding told
none_told st e q h = rw (eq-eqb e 0 (none-zero e h)) refl

codes-paired : (st : State) (es qs : List ℕ) → nonzero (told_each st es qs) ≡ map (λ x. told st x.first x.second) (paired es qs)
unfolding told_each paired nonzero filter
codes-paired st [] qs = refl
codes-paired st (e ∷ es) [] = refl
codes-paired st (e ∷ es) (q ∷ qs) = pick (some e) refl (codes-paired st es qs)
  where
    pick : (b : Bool) → some e ≡ b → nonzero (told_each st es qs) ≡ map (λ x. told st x.first x.second) (paired es qs)
        → cond (some (told st e q)) (told st e q ∷ nonzero (told_each st es qs)) (nonzero (told_each st es qs))
        ≡ map (λ x. told st x.first x.second) (cond b (record { first = e; second = q } ∷ paired es qs) (paired es qs))
    pick true h ih = rw (told-some st e q h) (ap (λ (l : List ℕ). told st e q ∷ l) ih)
    pick false h ih = rw (none_told st e q h) (unfold some in ih)

pub pair_values : (st : State) (es qs : Sixteen)
    → values_of (ToldAll (sixteen_from (told_each st (all_of es) (all_of qs)))) ≡ map (λ x. told_value (told st x.first x.second)) (pairs_of es qs)
unfolding values_of all_of numbers_of sixteen_from four_from told_each pairs_of
pair_values st es qs = ap (map told_value) (codes-paired st (all_of es) (all_of qs)) ∙ map-map told_value (λ (x : Group). told st x.first x.second) (pairs_of es qs)
