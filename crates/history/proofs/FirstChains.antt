-- The first chain of a row on sound tables: its rows, and the answer that holds them.
use Prim.Native.Nat.{ℕ, suc, ◌<◌, ◌≤◌, zero-le}
use native.Mathlib.Omega.{arith}
use mathlib.Core.Bool.{Bool, true, false, ◌&&◌}
use mathlib.Core.List.{List, [], ◌∷◌, map}
use mathlib.Core.Path.{◌≡◌, refl, ap, ◌∙◌}
use lib.Dec.{leb, eqb}
use lib.ListN.{length, length-append, length-map}
use borrow.Author.Tests.{le-leb, leb-true, eqb-false}
use Rattle.rows.specs.Lists.{all, member, some}
use Rattle.rows.specs.Limits.{greatest_number}
use Rattle.rows.specs.Tables.{State, no_row, row_of, numbers, first_chain}
use Rattle.rows.specs.Sound.{next_in_range}
use Rattle.rows.proofs.Bools.{and_l, and_i, pos-some}
use Rattle.rows.proofs.Places.{between-range}
use Rattle.rows.proofs.RowSources.{row-there}
use Rattle.tables.proofs.Sound.{Sound}
use Rattle.tables.proofs.SoundFacts.{row_below}
use Rattle.tables.proofs.Standing.{depth_falls}
use Rattle.tables.proofs.FirstChain.{chain-step, chain_length, chain-all}
use Rattle.calls.specs.Answers.{num, refusal_of, numbers_of, values_of}
use Rattle.calls.specs.Calls.{four_from, chained_answer}
use Rattle.text.proofs.Firsts.{firsts, firsts-all}
use Rattle.text.specs.ReadBack.{number_of, numbers_in, value_in_range, answer_in_range}
use Rattle.history.proofs.Inv.{first_value}

-- ---- the numbers that the answer holds
pub chain-values : (ns : List ℕ) → length ns ≤ 12 → all some ns ≡ true → values_of (chained_answer ns) ≡ map num ns
unfolding values_of chained_answer numbers_of four_from firsts
chain-values ns h a = ap (map num) (firsts-all 12 ns h a)

first-ranged : (ns : List ℕ) → all (λ n. leb n greatest_number) ns ≡ true → first_value (map num ns) ≤ greatest_number
unfolding all first_value
first-ranged [] a = zero-le
first-ranged (n ∷ ns) a = leb-true n greatest_number (and_l (leb n greatest_number) _ a)

values-ranged : (ns : List ℕ) → all value_in_range (map num ns) ≡ all (λ n. leb n greatest_number) ns
unfolding all value_in_range
values-ranged [] = refl
values-ranged (n ∷ ns) = ap (λ (b : Bool). leb n greatest_number && b) (values-ranged ns)

pub numbers-back : (ns : List ℕ) → numbers_in (map num ns) ≡ ns
unfolding numbers_in number_of
numbers-back [] = refl
numbers-back (n ∷ ns) = ap (λ (l : List ℕ). n ∷ l) (numbers-back ns)

-- ---- its rows
module _ (st : State) (s : Sound st) where
  module _ (e : ℕ) where
    abbrev ns : List ℕ
    ns = first_chain st.rows e

    chain-short : member e (numbers st.rows) ≡ true → length ns ≤ 12
    chain-short t = let h = chain_length st s e in let (a, b, deep) = depth_falls st s.numbers s.rows e t in omega arith

    pub chain-valued : member e (numbers st.rows) ≡ true → values_of (chained_answer ns) ≡ map num ns
    chain-valued t = chain-values ns (chain-short t) (chain-all st s some (λ n u. pos-some n (row_below st s.numbers n u).0) e)

    ranged : all (λ n. leb n greatest_number) ns ≡ true
    unfolding next_in_range
    ranged =
        let (lo, hi) = between-range 1 (suc greatest_number) st.next s.numbers.next-in-range in
        chain-all st s (λ n. leb n greatest_number) (λ n u. let (a, b) = row_below st s.numbers n u in le-leb n greatest_number (omega arith)) e

    pub chain-in-range : member e (numbers st.rows) ≡ true → answer_in_range (chained_answer ns) ≡ true
    unfolding answer_in_range greatest_number
    chain-in-range t = rw (chain-valued t) (unfold refusal_of chained_answer in (and_i (leb 0 greatest_number) _ refl (values-ranged ns ∙ ranged)))

    -- the answer has a value, and that is in range
    pub chain-some : member e (numbers st.rows) ≡ true → 0 < length (values_of (chained_answer ns))
    chain-some t =
        let long = length-append (first_chain st.rows (row_of st.rows e).source) (e ∷ []) in
        rw (chain-valued t, length-map ns num, chain-step st s e t) (omega arith)

    pub chain_first : member e (numbers st.rows) ≡ true → first_value (values_of (chained_answer ns)) ≤ greatest_number
    chain_first t = rw (chain-valued t) (first-ranged ns ranged)

-- a row that is found stands
pub row-found-there : (st : State) (e : ℕ) → eqb (row_of st.rows e).number 0 ≡ false → member e (numbers st.rows) ≡ true
unfolding no_row some
row-found-there st e h = row-there (λ r. some r.number) refl st.rows e (pos-some (row_of st.rows e).number (let n = eqb-false (row_of st.rows e).number 0 h in omega arith))
