-- What an answer says is read back from its text.
use Prim.Native.Nat.{ℕ, zero, suc, ◌+◌, ◌≤◌}
use native.Mathlib.Omega.{arith}
use mathlib.Core.Path.{◌≡◌, refl, ap, subst, ◌∙◌}
use mathlib.Core.Bool.{Bool, true, false, cond}
use mathlib.Core.List.{List, [], ◌∷◌, ◌++◌, map, append_assoc}
use lib.Dec.{leb, eqb}
use lib.ListN.{length, get_or, length-map}
use borrow.Author.Tests.{leb-true, eq-eqb, eqb-true}
use Rattle.rows.specs.Lists.{bytes, between, all, filter, nonzero, some}
use Rattle.rows.specs.Limits.{greatest_number, most_pairs}
use Rattle.rows.proofs.Bools.{and_l, and_r, clash}
use Rattle.changes.proofs.Removed.{length-filter}
use Rattle.calls.specs.declared.Answer.{Answer}
use Rattle.calls.specs.declared.Answer.TheVariants.{Done, Made, Fetched, Told, Chained, ToldAll, Refused}
use Rattle.calls.specs.Answers.{Value, num, dash, refusal_of, four_of, numbers_of, all_of, told_value, values_of}
use Rattle.text.specs.declared.Read.{Read}
use Rattle.text.specs.Patterns.{is_digit, bad, began, pieces, form, whole}
use Rattle.text.specs.Answers.{digits_of, value_text, spaced, ok_text, no_text, printed}
use Rattle.text.specs.ReadBack.{ValueRead, number_read, dash_read, value_at, values_at, answered_by, saying, value_in_range, answer_in_range}
use Rattle.text.proofs.Cursor.{At, at-start, at-skip, at_next, reading, takes-byte, other_byte, no_number, takes-number, then-reads, reads_all, then-bad}

-- ---- the values
values-lead : (vs : List Value) → is_digit (get_or (spaced vs ++ (41 ∷ 10 ∷ [])) 0 0) ≡ false
unfolding spaced is_digit between
values-lead [] = refl
values-lead (v ∷ vs) = refl

-- no value where the bracket stands
bracket-bad : (s : List ℕ) (i : ℕ) (u : List ℕ) (p : ℕ) → At s i (41 ∷ u) → pieces s (reading i 0 0 0 0) (32 ∷ p ∷ []) ≡ bad
bracket-bad s i u p a = then-bad s (reading i 0 0 0 0) 32 (p ∷ []) (other_byte s i 0 0 0 0 41 32 u a refl refl refl)

no_value : (s : List ℕ) (i : ℕ) (u : List ℕ) → At s i (41 ∷ u) → (value_at s i).good ≡ false
unfolding value_at number_read dash_read form began bytes bad
no_value s i u a = rw (bracket-bad s i u 35 a, bracket-bad s i u 45 a) refl

record Taken (s : List ℕ) (v : Value) (u : List ℕ) (f : ValueRead) : Type 0 where
  good : f.good ≡ true
  value : f.value ≡ v
  there : At s f.next u

take-number : (s : List ℕ) (i n : ℕ) (u : List ℕ) → n ≤ greatest_number → is_digit (get_or u 0 0) ≡ false → At s i (32 ∷ (digits_of n ++ u)) → Taken s (num n) u (value_at s i)
unfolding value_at number_read form began bytes
take-number s i n u h e a0 =
    let a1 = at_next s i 32 _ a0 in
    rw (then-reads s (reading i 0 0 0 0) _ _ 32 (35 ∷ []) (takes-byte s i 0 0 0 0 32 _ a0 refl refl) (then-reads s _ _ _ 35 _ (takes-number s _ 0 0 0 0 n _ a1 h e) (reads_all s _)))
    (record { good = refl; value = refl; there = at-skip s _ (digits_of n) _ a1 })

-- a `-` is no digit
take-dash : (s : List ℕ) (i : ℕ) (u : List ℕ) → At s i (32 ∷ 45 ∷ u) → Taken s dash u (value_at s i)
unfolding value_at dash_read form began bytes bad is_digit between
take-dash s i u a0 =
    let a1 = at_next s i 32 _ a0 in
    let space = takes-byte s i 0 0 0 0 32 _ a0 refl refl in
    rw (
      then-reads s (reading i 0 0 0 0) _ bad 32 (35 ∷ []) space (then-bad s (reading (i + 1) 0 0 0 0) 35 [] (no_number s (i + 1) 0 0 0 0 45 _ a1 refl refl)),
      then-reads s (reading i 0 0 0 0) _ _ 32 (45 ∷ []) space (then-reads s _ _ _ 45 _ (takes-byte s (i + 1) 0 0 0 0 45 _ a1 refl refl) (reads_all s _)),
    ) (record { good = refl; value = refl; there = at_next s (i + 1) 45 _ a1 })

take-value : (s : List ℕ) (i : ℕ) (v : Value) (u : List ℕ) → value_in_range v ≡ true → is_digit (get_or u 0 0) ≡ false → At s i (32 ∷ (value_text v ++ u)) → Taken s v u (value_at s i)
unfolding value_text value_in_range bytes
take-value s i (num n) u h e a = take-number s i n u (leb-true n greatest_number h) e a
take-value s i dash u h e a = take-dash s i u a

values-back : (s : List ℕ) (k : ℕ) (vs : List Value) (i : ℕ) → length vs ≤ k → all value_in_range vs ≡ true → At s i (spaced vs ++ (41 ∷ 10 ∷ [])) → values_at k s i ≡ vs
unfolding values_at spaced all
values-back s zero [] i h r a = refl
values-back s zero (v ∷ vs) i h r a = absurd (omega arith)
values-back s (suc k) [] i h r a = rw (no_value s i (10 ∷ []) a) refl
values-back s (suc k) (v ∷ vs) i h r a =
    let t = take-value s i v (spaced vs ++ (41 ∷ 10 ∷ [])) (and_l (value_in_range v) (all value_in_range vs) r) (values-lead vs)
    (subst (At s i) (ap (λ (l : List ℕ). 32 ∷ l) (append_assoc (value_text v) (spaced vs) (41 ∷ 10 ∷ []))) a) in
    let rest = values-back s k vs (value_at s i).next (omega arith) (and_r (value_in_range v) (all value_in_range vs) r) t.there in
    rw t.good (λ m. t.value m ∷ rest m)

-- ---- `(ok n ..)` is no refusal
ok-no-refusal : (s u : List ℕ) → At s 0 (40 ∷ 111 ∷ u) → (form s 0 "(no #)\n").good ≡ false
unfolding form began bytes bad
ok-no-refusal s u a0 =
    ap (λ (f : Read). f.good)
    (then-reads s (reading 0 0 0 0 0) _ bad 40 (110 ∷ 111 ∷ 32 ∷ 35 ∷ 41 ∷ 10 ∷ []) (takes-byte s 0 0 0 0 0 40 _ a0 refl refl)
    (then-bad s (reading 1 0 0 0 0) 110 (111 ∷ 32 ∷ 35 ∷ 41 ∷ 10 ∷ []) (other_byte s 1 0 0 0 0 111 110 u (at_next s 0 40 _ a0) refl refl refl)))

ok-back : (vs : List Value) → length vs ≤ most_pairs → all value_in_range vs ≡ true → answered_by (ok_text vs) ≡ record { refusal = 0; values = vs }
unfolding answered_by ok_text whole bytes
ok-back vs h r =
    let s : List ℕ = 40 ∷ 111 ∷ 107 ∷ (spaced vs ++ (41 ∷ 10 ∷ [])) in
    let a = at_next s 2 107 _ (at_next s 1 111 _ (at_next s 0 40 _ (at-start s))) in
    rw (ok-no-refusal s _ (at-start s), values-back s most_pairs vs 3 h r a) refl

-- ---- `(no k)`
no-back : (k : ℕ) → k ≤ greatest_number → answered_by (no_text (k ∷ [])) ≡ record { refusal = k; values = [] }
unfolding answered_by no_text spaced value_text bytes whole form began is_digit between
no-back k h =
    let s : List ℕ = 40 ∷ 110 ∷ 111 ∷ 32 ∷ ((digits_of k ++ []) ++ (41 ∷ 10 ∷ [])) in
    let a0 = at-start s in
    let a1 = at_next s 0 40 _ a0 in
    let a2 = at_next s 1 110 _ a1 in
    let a3 = at_next s 2 111 _ a2 in
    let a4 : At s 4 (digits_of k ++ (41 ∷ 10 ∷ [])) = subst (At s 4) (append_assoc (digits_of k) [] (41 ∷ 10 ∷ [])) (at_next s 3 32 _ a3) in
    let a5 = at-skip s 4 (digits_of k) _ a4 in
    let a6 = at_next s _ 41 _ a5 in
    let a7 = at_next s _ 10 _ a6 in
    let e = a7.size in
    rw (
      then-reads s (reading 0 0 0 0 0) _ _ 40 (110 ∷ 111 ∷ 32 ∷ 35 ∷ 41 ∷ 10 ∷ []) (takes-byte s 0 0 0 0 0 40 _ a0 refl refl)
          (then-reads s _ _ _ 110 _ (takes-byte s 1 0 0 0 0 110 _ a1 refl refl)
          (then-reads s _ _ _ 111 _ (takes-byte s 2 0 0 0 0 111 _ a2 refl refl)
          (then-reads s _ _ _ 32 _ (takes-byte s 3 0 0 0 0 32 _ a3 refl refl)
          (then-reads s _ _ _ 35 _ (takes-number s 4 0 0 0 0 k _ a4 h refl)
          (then-reads s _ _ _ 41 _ (takes-byte s _ 0 0 0 k 41 _ a5 refl refl)
          (then-reads s _ _ _ 10 _ (takes-byte s _ 0 0 0 k 10 _ a6 refl refl) (reads_all s _))))))),
      eq-eqb (4 + length (digits_of k) + 1 + 1) (length s) (omega arith),
    ) refl

-- ---- every answer
listed-few : (value : ℕ → Value) (ns : List ℕ) → length (map value (filter some ns)) ≤ length ns
listed-few value ns = omega (arith, length-map (filter some ns) value, length-filter some ns)

pub few-values : (a : Answer) → length (values_of a) ≤ most_pairs
unfolding values_of four_of numbers_of all_of most_pairs nonzero
few-values Done = omega arith
few-values (Made n) = omega arith
few-values (Fetched v is) = let h = listed-few num (four_of is) in omega arith
few-values (Told t) = omega arith
few-values (Chained a b c) = let h = listed-few num (numbers_of a ++ (numbers_of b ++ numbers_of c)) in omega arith
few-values (ToldAll s) = listed-few told_value (all_of s)
few-values (Refused k) = omega arith

values-none : (a : Answer) → eqb (refusal_of a) 0 ≡ false → values_of a ≡ []
unfolding refusal_of values_of
values-none Done e = clash refl e
values-none (Made n) e = clash refl e
values-none (Fetched v is) e = clash refl e
values-none (Told t) e = clash refl e
values-none (Chained a b c) e = clash refl e
values-none (ToldAll s) e = clash refl e
values-none (Refused k) e = refl

pub answer-read : (a : Answer) → answer_in_range a ≡ true → answered_by (printed a) ≡ saying a
unfolding printed saying answer_in_range
answer-read a h = pick (eqb (refusal_of a) 0) refl
  where
    pick : (b : Bool) → eqb (refusal_of a) 0 ≡ b → answered_by (cond b (ok_text (values_of a)) (no_text (refusal_of a ∷ []))) ≡ record { refusal = refusal_of a; values = values_of a }
    pick true e = ok-back (values_of a) (few-values a) (and_r (leb (refusal_of a) greatest_number) _ h) ∙ (rw (eqb-true (refusal_of a) 0 e) refl)
    pick false e = no-back (refusal_of a) (leb-true (refusal_of a) greatest_number (and_l (leb (refusal_of a) greatest_number) _ h)) ∙ (rw (values-none a e) refl)
